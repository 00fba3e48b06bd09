use Rattle.std.proofs.Common.{◌≡◌, take}
use Rattle.rif_tree.proofs.tree.+formula_copy.Given as goal

abbrev pub invariant-copy_formulas-loop-formula : goal.invariant-copy_formulas-loop-formula
invariant-copy_formulas-loop-formula l = l.items.items ≡ take l.formula-index l.formulas
