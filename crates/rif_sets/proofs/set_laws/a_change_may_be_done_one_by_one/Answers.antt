use Rattle.rif_sets.proofs.SetsSteps.{patched_steps}
use Rattle.rif_sets.proofs.set_laws.a_change_may_be_done_one_by_one.Goals as goal

pub returns : goal.returns
returns g c = patched_steps g.met.K.Ord.total
