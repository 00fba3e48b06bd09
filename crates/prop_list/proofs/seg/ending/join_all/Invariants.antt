use Rattle.std.proofs.Common.{◌≡◌, true, vec_len}
use Rattle.crossbeam_queue.specs.SegTies.{IsSegPassOf}
use Rattle.std.specs.List.{AllByRecursion}
use Rattle.prop_list.specs.declared.seg.seats.Seat.{Seat}
use Rattle.prop_list.specs.SegEnds.{joined_onto}
use Rattle.prop_list.specs.SegViews.{taker_in, is_taker}
use Rattle.prop_list.proofs.seg.ending.join_all.Given as goal

abbrev pub invariant-loop-seat : goal.invariant-loop-seat
invariant-loop-seat l = record {
  tied : IsSegPassOf l.queue l.pass;
  first : l.pass.id ≡ 0;
  taker : is_taker l.pass.me.view.client ≡ true;
  taken : (taker_in l.pass.me.view.client).taken ≡ (taker_in l.initial.pass.me.view.client).taken;
  seated : (taker_in l.pass.me.view.client).seated ≡ (taker_in l.initial.pass.me.view.client).seated;
  joined : joined_onto (taker_in l.pass.me.view.client).joined l.seats.items
      ≡ joined_onto (taker_in l.initial.pass.me.view.client).joined l.initial.seats.items;
  seats : AllByRecursion (λ (seat : Seat). seat.pass.web ≡ l.queue.web) l.seats.items;
}

abbrev pub decreases-loop-seat : goal.decreases-loop-seat
decreases-loop-seat l = vec_len l.seats
