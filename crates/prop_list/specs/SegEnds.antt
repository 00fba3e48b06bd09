-- The seats that a taker takes back at the end. No public clause cites this module.
--     joined_onto clients seats    the views of these seats, the last one first, behind those
--     pushed_by seats              how many entries they pushed
-- Source: the project's own (docs/PROFILE.md, "Clients").
use Rattle.std.specs.Prelude.{ℕ, ◌+◌, List, [], ◌∷◌, ◌++◌, length}
use Rattle.prop_list.specs.SegViews.{client_in}
use Rattle.prop_list.specs.declared.seg.seats.Seat.{Seat}
use Rattle.prop_list.specs.declared.seg.views.ClientView.{ClientView}

abbrev pub view_of : Seat → ClientView
view_of seat = client_in seat.pass.me.view.client

abbrev pub joined_onto : List ClientView → List Seat → List ClientView
joined_onto clients [] = clients
joined_onto clients (seat ∷ seats) = joined_onto clients seats ++ view_of seat ∷ []

abbrev pub pushed_by : List Seat → ℕ
pushed_by [] = 0
pushed_by (seat ∷ seats) = length (view_of seat).accepted + pushed_by seats
