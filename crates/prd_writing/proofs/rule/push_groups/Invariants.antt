use Rattle.std.proofs.Common.{◌≡◌, ◌++◌, List, drop}
use Rattle.rif_lex.specs.Spelling.{Spelled, spelled_text}
use Rattle.prd_writing.specs.Canonical.{groups_spelling}
use Rattle.prd_writing.proofs.rule.push_groups.Given as goal

abbrev pub invariant-loop-rule : goal.invariant-loop-rule
invariant-loop-rule l =
    (rest : List Spelled) → l.out.items ++ spelled_text (groups_spelling (drop l.rule-index l.rules) rest)
    ≡ l.fn.out.items ++ spelled_text (groups_spelling l.rules rest)
