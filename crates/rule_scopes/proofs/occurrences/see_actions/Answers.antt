use Rattle.rif_tree.specs.declared.rule.Action.{Action}
use Rattle.safe_rules.specs.BlockScope.{action_variables}
use Rattle.rule_scopes.specs.Occurrences.{uses}
use Rattle.rule_scopes.proofs.OccurrenceLemmas.{seen_more}
use Rattle.rule_scopes.proofs.occurrences.see_actions.Goals as goal

pub loop-action-preserved : goal.loop-action-preserved
loop-action-preserved c =
    seen_more (λ (action : Action). uses c.args.held.now (action_variables action)) c.args.found.now
    c.loop-action.found c.see_action.new.found c.args.actions.now c.loop-action.action-index c.action-item.result
    c.loop-action-test.true c.action-item.is c.loop-action.invariant c.see_action.ensures
