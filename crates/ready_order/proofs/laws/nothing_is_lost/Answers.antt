use Rattle.ready_order.proofs.LossLemmas.{nothing_lost}
use Rattle.ready_order.proofs.laws.nothing_is_lost.Goals as goal

pub returns : goal.returns
returns c = nothing_lost c.readiness_is_of_members.ensures
