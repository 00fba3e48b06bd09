-- What holds of a queue of entries between any two steps.
--     client_in, taker_in          the client's view, or the taker's, that this is
--     total f views                the sum of f over all clients' views, those that the taker keeps too
--     FitsLog, Stands, Holds       what is so of a client's view; of the queue and all views; that it is so
--     after_push, after_take ..    a view after a step
--     Settled, Learns, Takes       what a taker learns of the entries that are left, and a take tells
-- Source: the project's own (docs/PROFILE.md, "Clients").
use Rattle.std.specs.Prelude.{◌≡◌, ℕ, ◌+◌, ◌<◌, ◌≤◌, Bool, true, false, List, [], ◌∷◌, ◌++◌, length}
use mathlib.Core.Option.{some}
use lib.ListN.{get_elem?}
use Rattle.session_states.specs.declared.item.Entry.{Entry}
use Rattle.prop_list.specs.Lists.{entries_of}
use Rattle.prop_list.specs.declared.seg.views.ClientView.{ClientView}
use Rattle.prop_list.specs.declared.seg.views.TakerView.{TakerView}
use Rattle.prop_list.specs.declared.seg.views.View.{View}
use Rattle.prop_list.specs.declared.seg.views.View.TheVariants.{Client, Taker, Spent}

abbrev pub sum_over : (ClientView → ℕ) → List ClientView → ℕ
sum_over f [] = 0
sum_over f (client ∷ clients) = f client + sum_over f clients

abbrev pub sum_within : (ClientView → ℕ) → View → ℕ
sum_within f (Client client) = f client
sum_within f (Taker taker) = sum_over f taker.joined
sum_within f Spent = 0

abbrev pub total : (ClientView → ℕ) → List View → ℕ
total f [] = 0
total f (view ∷ views) = sum_within f view + total f views

abbrev pub pushes : ClientView → ℕ
pushes client = length client.accepted

-- of a client's view, where these are all entries so far
pub record FitsLog (log : List Entry) (place : ℕ → ℕ × ℕ) (seated : ℕ) (at : ℕ × ℕ) (client : ClientView)
    : Type 0 where
  pub placed : place client.client ≡ at
  pub numbered : client.client < seated
  pub accepted : client.accepted ≡ entries_of client.client log

-- place: where each client's view is, (i, 0) among the views or (0, j) among those that the taker keeps
pub record Stands (place : ℕ → ℕ × ℕ) (taker : TakerView) (queued : List Entry) (views : List View) : Type 0 where
  pub first : get_elem? views 0 ≡ some (Taker taker)
  pub count : total pushes views ≡ length (taker.taken ++ queued)
  pub seats : total (λ client. 1) views ≡ taker.seated
  pub named : (at : ℕ) (entry : Entry) → get_elem? (taker.taken ++ queued) at ≡ some entry
      → entry.client < taker.seated
  pub live : (at : ℕ) (client : ClientView) → get_elem? views at ≡ some (Client client)
      → FitsLog (taker.taken ++ queued) place taker.seated (at, 0) client
  pub joined : (at : ℕ) (client : ClientView) → get_elem? taker.joined at ≡ some client
      → FitsLog (taker.taken ++ queued) place taker.seated (0, at) client

abbrev pub Holds : List Entry → List View → Type 0
Holds queued views = (place : ℕ → ℕ × ℕ) × (taker : TakerView) × Stands place taker queued views

abbrev pub new_client : ℕ → ClientView
new_client client = record { client = client; accepted = [] }

abbrev pub new_taker : TakerView
new_taker = record { taken = []; seated = 0; joined = [] }

abbrev pub seated_taker : ℕ → View
seated_taker seated = Taker (record { taken = []; seated = seated; joined = [] })

abbrev pub client_in : View → ClientView
client_in (Client client) = client
client_in (Taker taker) = new_client 0
client_in Spent = new_client 0

abbrev pub taker_in : View → TakerView
taker_in (Client client) = new_taker
taker_in (Taker taker) = taker
taker_in Spent = new_taker

abbrev pub is_client : View → Bool
is_client (Client client) = true
is_client (Taker taker) = false
is_client Spent = false

abbrev pub is_taker : View → Bool
is_taker (Client client) = false
is_taker (Taker taker) = true
is_taker Spent = false

abbrev pub after_push : Entry → View → View
after_push entry view =
    Client (record { client = (client_in view).client; accepted = (client_in view).accepted ++ entry ∷ [] })

abbrev pub after_take : Entry → View → View
after_take entry view = Taker (record (taker_in view) { taken = (taker_in view).taken ++ entry ∷ [] })

abbrev pub after_seat : View → View
after_seat view = Taker (record (taker_in view) { seated = (taker_in view).seated + 1 })

abbrev pub after_join : View → View → View
after_join view other = Taker (record (taker_in view) { joined = (taker_in view).joined ++ client_in other ∷ [] })

pub record Settled (taker : TakerView) (queued : List Entry) : Type 0 where
  pub each : (at : ℕ) (client : ClientView) → get_elem? taker.joined at ≡ some client
      → client.accepted ≡ entries_of client.client (taker.taken ++ queued)
  pub named : (at : ℕ) (entry : Entry) → get_elem? (taker.taken ++ queued) at ≡ some entry
      → entry.client < taker.seated
  pub room : length taker.joined ≡ taker.seated → length (taker.taken ++ queued) ≡ sum_over pushes taker.joined

abbrev pub Learns : View → List Entry → Type 0
Learns view queued = Settled (taker_in view) queued

abbrev pub Takes : View → Entry → View → Type 0
Takes old entry new = (new ≡ after_take entry old) × (length (taker_in old).joined ≡ (taker_in old).seated
    → length (taker_in old).taken + 1 ≤ sum_over pushes (taker_in old).joined)
