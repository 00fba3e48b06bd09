use Rattle.std.proofs.Common.{◌≡◌, take, map}
use Rattle.rule_scopes.specs.Numbering.{numbered_action}
use Rattle.rule_scopes.proofs.numbered_block.numbered_actions.Given as goal

abbrev pub invariant-loop-action : goal.invariant-loop-action
invariant-loop-action l = l.all.items ≡ map (numbered_action l.scope) (take l.action-index l.actions)
