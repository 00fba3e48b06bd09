use Rattle.std.proofs.Common.{◌≡◌, drop}
use Rattle.prd_building.specs.Signs.{ends_vars}
use Rattle.prd_building.specs.Building.{items_at, var_at, vars_at, with_front}
use Rattle.prd_building.proofs.terms.vars.Given as goal

abbrev pub invariant-loop-left : goal.invariant-loop-left
invariant-loop-left l =
    with_front l.all (items_at ends_vars (var_at l.names) l.left (drop l.at l.leaves))
    ≡ vars_at l.names l.most (drop l.from l.leaves)

abbrev pub decreases-loop-left : goal.decreases-loop-left
decreases-loop-left l = l.left
