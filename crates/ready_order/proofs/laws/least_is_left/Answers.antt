use Rattle.ready_order.proofs.UnboundLemmas.{least_law}
use Rattle.ready_order.proofs.laws.least_is_left.Goals as goal

pub returns : goal.returns
returns c = least_law
