use Rattle.std.proofs.Common.{◌≡◌, ◌+◌, ◌*◌, drop}
use Rattle.prd_building.specs.Signs.{closes}
use Rattle.prd_building.specs.Building.{items_at, with_front, term_at, terms_at}
use Rattle.prd_building.proofs.terms.+term.Given as goal

abbrev pub decreases-term : goal.decreases-term
decreases-term l = 3 * l.left

abbrev pub decreases-term_within : goal.decreases-term_within
decreases-term_within l = 3 * l.left + 2

abbrev pub decreases-terms : goal.decreases-terms
decreases-terms l = 3 * l.most + 1

abbrev pub invariant-terms-loop-left : goal.invariant-terms-loop-left
invariant-terms-loop-left l =
    with_front l.all (items_at closes (term_at l.names l.fn.most) l.left (drop l.at l.leaves))
    ≡ terms_at l.names l.fn.most (drop l.fn.from l.leaves)

abbrev pub decreases-terms-loop-left : goal.decreases-terms-loop-left
decreases-terms-loop-left l = l.left
