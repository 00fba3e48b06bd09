use Rattle.rule_scopes.proofs.RuleNumberLemmas.{numbering_scoped}
use Rattle.rule_scopes.proofs.laws.numbering_is_scoped.Goals as goal

pub returns : goal.returns
returns c = numbering_scoped
