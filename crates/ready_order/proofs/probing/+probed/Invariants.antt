use Rattle.std.proofs.Common.{◌≡◌, false, None, take}
use Rattle.ready_order.specs.Arranging.{first_ready}
use Rattle.ready_order.specs.Marks.{pieces_left}
use Rattle.ready_order.proofs.probing.+probed.Given as goal

abbrev pub invariant-are_more_found-loop-place : goal.invariant-are_more_found-loop-place
invariant-are_more_found-loop-place l =
    l.is_more ≡ false → first_ready l.held (pieces_left (take l.place l.members) (take l.place l.is_found)) ≡ None
