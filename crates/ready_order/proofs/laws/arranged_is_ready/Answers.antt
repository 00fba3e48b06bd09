use Rattle.ready_order.proofs.FittingLemmas.{arranged_law}
use Rattle.ready_order.proofs.laws.arranged_is_ready.Goals as goal

pub returns : goal.returns
returns c = arranged_law c.readiness_is_of_members.ensures
