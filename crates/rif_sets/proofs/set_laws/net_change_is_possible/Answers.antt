use Rattle.rif_sets.proofs.SetsChanges.{change_of_net}
use Rattle.rif_sets.proofs.set_laws.net_change_is_possible.Goals as goal

pub returns : goal.returns
returns g c = change_of_net g.met.K.Ord.total
