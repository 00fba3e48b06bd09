use Rattle.std.proofs.Common.{refl, ◌∙◌}
use Rattle.prop_list.proofs.SegEnds.{onto_one_more, all_of_front}
use Rattle.prop_list.proofs.SegSteps.{join_owed}
use Rattle.prop_list.proofs.seg.ending.join_all.Goals as goal

pub absorb-requires-clause-rule : goal.absorb-requires-clause-rule
absorb-requires-clause-rule c =
    let now = c.loop-seat.invariant in join_owed _ _ _ _ now.first now.taker c.in-Some.seat.idle.2

pub loop-seat-preserved : goal.loop-seat-preserved
loop-seat-preserved c =
    let now = c.loop-seat.invariant in
    let call = c.absorb.ensures in
    rw call.rule (record {
      tied = call.queue.0;
      first = call.queue.1 ∙ now.first;
      taker = refl;
      taken = now.taken;
      seated = now.seated;
      joined = onto_one_more _ _ _ _ c.in-Some.seat c.in-Some.ensures.items now.joined;
      seats = all_of_front _ _ c.in-Some.seat (rw c.in-Some.ensures.items at now.seats);
    })
