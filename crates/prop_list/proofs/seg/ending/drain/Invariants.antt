use Rattle.std.proofs.Common.{◌≡◌, ◌-◌, ◌++◌, true, length, vec_capacity}
use Rattle.crossbeam_queue.specs.SegTies.{IsSegPassOf}
use Rattle.prop_list.specs.SegViews.{taker_in, is_taker, pushes, sum_over}
use Rattle.prop_list.proofs.seg.ending.drain.Given as goal

abbrev pub invariant-loop-entry : goal.invariant-loop-entry
invariant-loop-entry g l = record {
  tied : IsSegPassOf l.queue l.pass;
  first : l.pass.id ≡ 0;
  taker : is_taker l.pass.me.view.client ≡ true;
  joined : (taker_in l.pass.me.view.client).joined ≡ (taker_in l.initial.pass.me.view.client).joined;
  seated : (taker_in l.pass.me.view.client).seated ≡ (taker_in l.initial.pass.me.view.client).seated;
  taken : (taker_in l.pass.me.view.client).taken
      ≡ (taker_in l.initial.pass.me.view.client).taken ++ l.left.items;
  room : vec_capacity l.left ≡ vec_capacity l.initial.left;
}

abbrev pub decreases-loop-entry : goal.decreases-loop-entry
decreases-loop-entry g l =
    sum_over pushes (taker_in l.initial.pass.me.view.client).joined - length (taker_in l.pass.me.view.client).taken
