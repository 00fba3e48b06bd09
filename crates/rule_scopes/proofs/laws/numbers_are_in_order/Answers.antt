use Rattle.rule_scopes.proofs.OrderLemmas.{numbers_in_order}
use Rattle.rule_scopes.proofs.laws.numbers_are_in_order.Goals as goal

pub returns : goal.returns
returns c = numbers_in_order
