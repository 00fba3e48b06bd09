use Rattle.std.proofs.Common.{◌≡◌, ◌++◌, List, map, drop}
use Rattle.rif_lex.specs.Spelling.{Spelled, spelled_text}
use Rattle.prd_writing.specs.Canonical.{spaced, var_spelling}
use Rattle.prd_writing.proofs.formula.push_vars.Given as goal

abbrev pub invariant-loop-var : goal.invariant-loop-var
invariant-loop-var l =
    (rest : List Spelled) →
    l.out.items ++ spelled_text (spaced (map (var_spelling l.names) (drop l.var-index l.vars)) rest)
    ≡ l.fn.out.items ++ spelled_text (spaced (map (var_spelling l.names) l.vars) rest)
