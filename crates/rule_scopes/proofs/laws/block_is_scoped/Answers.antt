use Rattle.rule_scopes.proofs.RuleNumberLemmas.{block_numbered}
use Rattle.rule_scopes.proofs.laws.block_is_scoped.Goals as goal

pub returns : goal.returns
returns c = block_numbered
