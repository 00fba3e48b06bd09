use Rattle.std.proofs.Common.{ℕ, refl, ap, ◌∙◌, arith, length-append}
use Rattle.prop_list.specs.SegSeats.{list_id}
use Rattle.prop_list.specs.SegViews.{after_seat, client_in, is_taker}
use Rattle.prop_list.specs.declared.seg.seats.Seat.{Seat}
use Rattle.prop_list.specs.declared.seg.views.View.{View}
use Rattle.prop_list.proofs.SegEnds.{all_longer, clients_longer}
use Rattle.prop_list.proofs.SegSteps.{seat_owed}
use Rattle.prop_list.proofs.seg.making.seat_all.Goals as goal

pub another-other-requires-clause-rule : goal.another-other-requires-clause-rule
another-other-requires-clause-rule c =
    let now = c.loop-client.invariant in seat_owed _ _ now.first (ap is_taker now.view)

pub loop-client-preserved : goal.loop-client-preserved
loop-client-preserved c =
    let now = c.loop-client.invariant in
    let call = c.another-other.ensures in
    let items = c.push_reserved.ensures.items in
    record {
      tied = call.queue.0;
      first = call.queue.1 ∙ now.first;
      view = call.rule.0 ∙ ap after_seat now.view;
      count = rw items (omega (arith, length-append {A = Seat}, now.count));
      room = c.push_reserved.ensures.capacity ∙ now.room;
      seats = rw items (all_longer _ c.loop-client.seats.items _ now.seats
          (ap (λ (web : ℕ × ℕ). list_id web c.args.count) call.queue.2.0.0));
      fresh = rw items (all_longer _ c.loop-client.seats.items _ now.fresh
          (ap (λ (view : View). (client_in view).accepted) call.rule.1));
      clients = rw items (clients_longer c.loop-client.seats.items _ c.loop-client.client now.clients refl);
    }
