use Rattle.ready_order.proofs.UnboundLemmas.{left_unbound}
use Rattle.ready_order.proofs.laws.left_is_unbound.Goals as goal

pub returns : goal.returns
returns c = left_unbound
