use Rattle.std.proofs.Common.{◌≡◌, drop}
use Rattle.prd_building.specs.Signs.{ends_levels}
use Rattle.prd_building.specs.Building.{items_at, level_at, levels_at, with_front}
use Rattle.prd_building.proofs.rules.levels.Given as goal

abbrev pub invariant-loop-left : goal.invariant-loop-left
invariant-loop-left l =
    with_front l.all (items_at ends_levels (level_at l.names l.most) l.left (drop l.at l.leaves))
    ≡ levels_at l.names l.most (drop l.from l.leaves)

abbrev pub decreases-loop-left : goal.decreases-loop-left
decreases-loop-left l = l.left
