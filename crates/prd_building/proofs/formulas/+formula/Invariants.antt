use Rattle.std.proofs.Common.{◌≡◌, ◌+◌, ◌*◌, drop}
use Rattle.prd_building.specs.Signs.{closes}
use Rattle.prd_building.specs.Building.{items_at, with_front, formula_at, formulas_at}
use Rattle.prd_building.proofs.formulas.+formula.Given as goal

abbrev pub decreases-formula : goal.decreases-formula
decreases-formula l = 3 * l.left

abbrev pub decreases-formula_within : goal.decreases-formula_within
decreases-formula_within l = 3 * l.left + 2

abbrev pub decreases-exists : goal.decreases-exists
decreases-exists l = 3 * l.left + 1

abbrev pub decreases-formulas : goal.decreases-formulas
decreases-formulas l = 3 * l.most + 1

abbrev pub invariant-formulas-loop-left : goal.invariant-formulas-loop-left
invariant-formulas-loop-left l =
    with_front l.all (items_at closes (formula_at l.names l.fn.most) l.left (drop l.at l.leaves))
    ≡ formulas_at l.names l.fn.most (drop l.fn.from l.leaves)

abbrev pub decreases-formulas-loop-left : goal.decreases-formulas-loop-left
decreases-formulas-loop-left l = l.left
