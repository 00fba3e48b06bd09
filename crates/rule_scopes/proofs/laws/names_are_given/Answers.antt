use Rattle.rule_scopes.proofs.RuleNumberLemmas.{names_given}
use Rattle.rule_scopes.proofs.laws.names_are_given.Goals as goal

pub returns : goal.returns
returns c = names_given
