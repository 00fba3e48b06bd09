use Rattle.std.proofs.Common.{◌≡◌, take}
use Rattle.std.specs.List.{flat_map}
use Rattle.safe_rules.specs.BlockScope.{action_variables}
use Rattle.rule_scopes.specs.Misplaced.{seen_all}
use Rattle.rule_scopes.specs.Occurrences.{uses}
use Rattle.rule_scopes.proofs.occurrences.see_actions.Given as goal

abbrev pub invariant-loop-action : goal.invariant-loop-action
invariant-loop-action l =
    let before = take l.action-index l.actions in
    l.found ≡ seen_all l.fn.found (flat_map (λ action. uses l.held (action_variables action)) before)
