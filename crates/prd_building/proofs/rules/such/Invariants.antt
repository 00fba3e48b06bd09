use Rattle.std.proofs.Common.{◌≡◌, drop}
use Rattle.prd_building.specs.Signs.{ends_such}
use Rattle.prd_building.specs.Building.{formula_at, items_at, such_at, with_front}
use Rattle.prd_building.proofs.rules.such.Given as goal

abbrev pub invariant-loop-left : goal.invariant-loop-left
invariant-loop-left l =
    with_front l.all (items_at ends_such (formula_at l.names l.most) l.left (drop l.at l.leaves))
    ≡ such_at l.names l.most (drop l.from l.leaves)

abbrev pub decreases-loop-left : goal.decreases-loop-left
decreases-loop-left l = l.left
