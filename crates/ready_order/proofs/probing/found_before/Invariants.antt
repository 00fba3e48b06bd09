use Rattle.std.proofs.Common.{◌≡◌, length}
use Rattle.ready_order.proofs.probing.found_before.Given as goal

abbrev pub invariant-loop-member : goal.invariant-loop-member
invariant-loop-member l = length l.is_found.items ≡ l.member-index
