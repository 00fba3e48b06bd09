use Rattle.rif_sets.proofs.SetsMembers.{has_ordered, set_ordered}
use Rattle.rif_sets.proofs.set_laws.ordering_keeps_the_elements.Goals as goal

pub returns : goal.returns
returns g c = λ exact xs. (set_ordered g.met.K.Ord.total exact xs, has_ordered g.met.K.Ord.total exact xs)
