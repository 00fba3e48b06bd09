use Rattle.std.proofs.Common.{◌≡◌, ◌++◌, List, map, drop, true}
use Rattle.rif_lex.specs.Spelling.{Spelled}
use Rattle.prd_writing.specs.Canonical.{action_spelling}
use Rattle.prd_writing.specs.Writing.{left_text}
use Rattle.prd_writing.proofs.action.push_actions.Given as goal

abbrev pub invariant-loop-action : goal.invariant-loop-action
invariant-loop-action l =
    (rest : List Spelled) →
    l.out.items ++ left_text l.is_first (map (action_spelling l.names) (drop l.action-index l.actions)) rest
    ≡ l.fn.out.items ++ left_text true (map (action_spelling l.names) l.actions) rest
