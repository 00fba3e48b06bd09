use Rattle.ready_order.proofs.ConditionLemmas.{declarations_kept}
use Rattle.ready_order.proofs.laws.declarations_are_kept.Goals as goal

pub returns : goal.returns
returns c = declarations_kept
