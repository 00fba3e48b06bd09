use Rattle.std.proofs.Common.{◌≡◌, ◌++◌, List, map, drop}
use Rattle.rif_lex.specs.Spelling.{Spelled, spelled_text}
use Rattle.prd_writing.specs.Canonical.{spaced, formula_spelling}
use Rattle.prd_writing.proofs.formula.push_such_that.Given as goal

abbrev pub invariant-loop-formula : goal.invariant-loop-formula
invariant-loop-formula l =
    (rest : List Spelled) →
    l.out.items ++ spelled_text (spaced (map (formula_spelling l.names) (drop l.formula-index l.formulas)) rest)
    ≡ l.fn.out.items ++ spelled_text (spaced (map (formula_spelling l.names) l.formulas) rest)
