use Rattle.std.proofs.Common.{◌≡◌, ◌∙◌, ap}
use Rattle.rule_scopes.specs.declared.misplaced.Misplaced.{Misplaced}
use Rattle.rule_scopes.specs.Misplaced.{nothing}
use Rattle.rule_scopes.specs.Occurrences.{rule_occurrences}
use Rattle.rule_scopes.proofs.OccurrenceLemmas.{undeclared_told}
use Rattle.rule_scopes.proofs.scopes.undeclared.Goals as goal

pub returns : goal.returns
returns c =
    ap Misplaced.undeclared c.in_ok-found.ensures ∙ undeclared_told nothing (rule_occurrences c.args.rule.now)
