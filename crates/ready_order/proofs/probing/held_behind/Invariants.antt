use Rattle.std.proofs.Common.{◌≡◌, ◌++◌, map, take}
use Rattle.ready_order.specs.Arranging.{piece_of, free_in_pieces}
use Rattle.ready_order.specs.Findings.{marked_of}
use Rattle.ready_order.proofs.probing.held_behind.Given as goal

abbrev pub invariant-loop-place : goal.invariant-loop-place
invariant-loop-place l =
    let marked = marked_of (take l.place l.members) (take l.place l.is_found) in
    l.held.items ≡ l.fn.bound ++ free_in_pieces (map piece_of marked)
