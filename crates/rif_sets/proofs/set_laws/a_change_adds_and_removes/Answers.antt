use Rattle.rif_sets.proofs.SetsChanges.{has_patched, set_patched}
use Rattle.rif_sets.proofs.set_laws.a_change_adds_and_removes.Goals as goal

pub returns : goal.returns
returns g c = λ exact old more less set.
    (set_patched g.met.K.Ord.total exact old more less set, has_patched g.met.K.Ord.total exact old more less)
