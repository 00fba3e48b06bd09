use Rattle.std.proofs.Common.{◌≡◌, take}
use Rattle.ready_order.specs.Marks.{left_of}
use Rattle.ready_order.proofs.arranging.copy_left.Given as goal

abbrev pub invariant-loop-place : goal.invariant-loop-place
invariant-loop-place l = l.left ≡ left_of (take l.place l.conjuncts) (take l.place l.is_taken)
