use Rattle.std.proofs.Common.{arith}
use Rattle.prop_list.proofs.SegEnds.{pushed_by_one_more}
use Rattle.prop_list.proofs.seg.ending.pushed_by_all.Goals as goal

pub loop-seat-preserved : goal.loop-seat-preserved
loop-seat-preserved c =
    let item = c.seat-item in
    let more = pushed_by_one_more c.args.seats.now c.loop-seat.seat-index item.result (omega arith) item.is in
    let now = c.loop-seat.invariant in
    omega (arith, more, now, item.result.own.1, c.in_ok-pushed.ensures)
