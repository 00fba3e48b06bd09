use Rattle.ready_order.proofs.ConditionLemmas.{arrangement_shaped}
use Rattle.ready_order.proofs.laws.arrangement_is_shaped.Goals as goal

pub returns : goal.returns
returns c = arrangement_shaped
