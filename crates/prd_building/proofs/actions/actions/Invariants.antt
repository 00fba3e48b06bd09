use Rattle.std.proofs.Common.{◌≡◌, drop}
use Rattle.prd_building.specs.Signs.{closes}
use Rattle.prd_building.specs.Building.{action_at, actions_at, items_at, with_front}
use Rattle.prd_building.proofs.actions.actions.Given as goal

abbrev pub invariant-loop-left : goal.invariant-loop-left
invariant-loop-left l =
    with_front l.all (items_at closes (action_at l.names l.most) l.left (drop l.at l.leaves))
    ≡ actions_at l.names l.most (drop l.from l.leaves)

abbrev pub decreases-loop-left : goal.decreases-loop-left
decreases-loop-left l = l.left
