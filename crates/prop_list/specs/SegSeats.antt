-- What the users of a list over a queue see of it.
--     id_of, id_of_seat, id_of_taker     which list it is, and which one it was made with
--     client_of, accepted_by, refusal_of a seat's client, its accepted entries, and its refusal: it has none
--     taken_by, is_shut_by, nones_of     what a taker has taken, whether it has shut, how often it found nothing
-- Source: the project's own (docs/PROFILE.md, "Clients").
use Rattle.std.specs.Prelude.{ℕ, Bool, List, None}
use Rattle.std.specs.declared.option.Option.{Option}
use Rattle.session_states.specs.declared.item.Entry.{Entry}
use Rattle.prop_list.specs.Lists.{ListId, queue}
use Rattle.prop_list.specs.SegViews.{client_in, taker_in}
use Rattle.prop_list.specs.declared.propagation.PushFault.{PushFault}
use Rattle.prop_list.specs.declared.seg.seats as structs

abbrev pub list_id : ℕ × ℕ → ℕ → ListId
list_id web seats = record { store = queue web; seats = seats; capacity = None }

abbrev pub id_of : structs.List.List → ListId
id_of list = list_id list.queue.web list.seats

abbrev pub id_of_seat : structs.Seat.Seat → ListId
id_of_seat seat = list_id seat.pass.web seat.seats

abbrev pub id_of_taker : structs.Taker.Taker → ListId
id_of_taker taker = list_id taker.pass.web taker.seats

abbrev pub client_of : structs.Seat.Seat → ℕ
client_of seat = seat.client

abbrev pub accepted_by : structs.Seat.Seat → List Entry
accepted_by seat = (client_in seat.pass.me.view.client).accepted

abbrev pub refusal_of : structs.Seat.Seat → Option PushFault
refusal_of seat = None

abbrev pub taken_by : structs.Taker.Taker → List Entry
taken_by taker = (taker_in taker.pass.me.view.client).taken

abbrev pub is_shut_by : structs.Taker.Taker → Bool
is_shut_by taker = taker.has_shut

abbrev pub nones_of : structs.Taker.Taker → ℕ
nones_of taker = taker.nones.seat.me.0.number
