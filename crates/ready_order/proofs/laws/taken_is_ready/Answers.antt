use Rattle.ready_order.proofs.FittingLemmas.{taken_law}
use Rattle.ready_order.proofs.laws.taken_is_ready.Goals as goal

pub returns : goal.returns
returns c = taken_law c.readiness_is_of_members.ensures
