use Rattle.std.proofs.Common.{◌≡◌, [], length, map, vec_capacity}
use Rattle.crossbeam_queue.specs.SegTies.{IsSegPassOf}
use Rattle.std.specs.List.{AllByRecursion, range_with_len}
use Rattle.prop_list.specs.declared.seg.seats.Seat.{Seat}
use Rattle.prop_list.specs.SegSeats.{accepted_by, client_of, id_of_seat, list_id}
use Rattle.prop_list.specs.SegViews.{seated_taker}
use Rattle.prop_list.proofs.seg.making.seat_all.Given as goal

abbrev pub invariant-loop-client : goal.invariant-loop-client
invariant-loop-client l = record {
  tied : IsSegPassOf l.queue l.pass;
  first : l.pass.id ≡ 0;
  view : l.pass.me.view.client ≡ seated_taker l.client;
  count : length l.seats.items ≡ l.client;
  room : vec_capacity l.seats ≡ l.count;
  seats : AllByRecursion (λ (seat : Seat). id_of_seat seat ≡ list_id l.queue.web l.count) l.seats.items;
  fresh : AllByRecursion (λ (seat : Seat). accepted_by seat ≡ []) l.seats.items;
  clients : map client_of l.seats.items ≡ range_with_len 0 l.client;
}
