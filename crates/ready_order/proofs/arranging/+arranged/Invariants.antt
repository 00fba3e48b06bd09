use Rattle.std.proofs.Common.{◌≡◌, None, map, take, drop}
use Rattle.ready_order.specs.Arranging.{piece_of, first_ready, branches_at}
use Rattle.ready_order.specs.Marks.{pieces_left, IsUnderway}
use Rattle.ready_order.proofs.ArrangedLemmas.{kept_before}
use Rattle.ready_order.proofs.arranging.+arranged.Given as goal

abbrev pub invariant-take_ready-loop-turn : goal.invariant-take_ready-loop-turn
invariant-take_ready-loop-turn l = IsUnderway l.fn.bound l.conjuncts l.turn l.progress

abbrev pub invariant-next_ready-loop-place : goal.invariant-next_ready-loop-place
invariant-next_ready-loop-place l =
    first_ready l.bound (pieces_left (take l.place l.conjuncts) (take l.place l.is_taken)) ≡ None

abbrev pub invariant-arranged_branches-loop-branch : goal.invariant-arranged_branches-loop-branch
invariant-arranged_branches-loop-branch l =
    branches_at l.bound l.all (map piece_of l.branches)
    ≡ kept_before l.kept.items (branches_at l.bound l.all (map piece_of (drop l.branch-index l.branches)))
