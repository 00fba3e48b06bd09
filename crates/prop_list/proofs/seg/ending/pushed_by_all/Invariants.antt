use Rattle.std.proofs.Common.{◌≡◌, take}
use Rattle.prop_list.specs.SegEnds.{pushed_by}
use Rattle.prop_list.proofs.seg.ending.pushed_by_all.Given as goal

abbrev pub invariant-loop-seat : goal.invariant-loop-seat
invariant-loop-seat l = l.pushed ≡ pushed_by (take l.seat-index l.seats)
