use Rattle.std.proofs.Common.{◌≡◌, ◌∷◌, [], pos, length, drop}
use Rattle.prd_building.specs.Building.{members_at, with_front}
use Rattle.prd_building.proofs.document.members.Given as goal

abbrev pub invariant-loop-left : goal.invariant-loop-left
invariant-loop-left l =
    with_front l.rules (members_at l.most l.groups.items (drop (length l.rules) l.names) l.left (drop l.at l.leaves))
    ≡ members_at l.most (pos 0 ∷ []) l.names l.most (drop l.from l.leaves)

abbrev pub decreases-loop-left : goal.decreases-loop-left
decreases-loop-left l = l.left
