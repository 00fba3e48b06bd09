use Rattle.rif_sets.proofs.SetsChanges.{both_net}
use Rattle.rif_sets.proofs.set_laws.two_changes_make_one.Goals as goal

pub returns : goal.returns
returns g c = both_net g.met.K.Ord.total
