use Rattle.std.proofs.Common.{◌≡◌, ◌++◌, List, map, drop, true}
use Rattle.rif_lex.specs.Spelling.{Spelled}
use Rattle.prd_writing.specs.Canonical.{formula_spelling}
use Rattle.prd_writing.specs.Writing.{left_text}
use Rattle.prd_writing.proofs.formula.+formula_writing.Given as goal

abbrev pub invariant-push_formulas-loop-formula : goal.invariant-push_formulas-loop-formula
invariant-push_formulas-loop-formula l =
    (rest : List Spelled) →
    l.out.items ++ left_text l.is_first (map (formula_spelling l.names) (drop l.formula-index l.formulas)) rest
    ≡ l.fn.out.items ++ left_text true (map (formula_spelling l.names) l.formulas) rest
