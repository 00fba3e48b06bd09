use Rattle.std.proofs.Common.{◌≡◌, drop}
use Rattle.prd_building.specs.Signs.{closes_square}
use Rattle.prd_building.specs.Building.{items_at, pair_at, pairs_at, with_front}
use Rattle.prd_building.proofs.terms.pairs.Given as goal

abbrev pub invariant-loop-left : goal.invariant-loop-left
invariant-loop-left l =
    with_front l.all (items_at closes_square (pair_at l.names l.most) l.left (drop l.at l.leaves))
    ≡ pairs_at l.names l.most (drop l.from l.leaves)

abbrev pub decreases-loop-left : goal.decreases-loop-left
decreases-loop-left l = l.left
