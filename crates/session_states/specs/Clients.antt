-- What of a list of entries is one client's, and what a client sent.
--     items_of client entries    the client's items among the entries, in order
--     ranks_of client entries    their ranks, in order
--     script_of client sent      the client's items among all that were sent, each with its client's number, in order
--     CountUp n ms               the numbers are n, n + 1, n + 2 and so on
-- Source: the project's own (docs/PROFILE.md, "Clients").
use Rattle.std.specs.Prelude.{ℕ, suc, ◌≡◌, ◌==◌, List, [], ◌∷◌, if◌then◌else◌}
use Rattle.session_states.specs.declared.item.Item.{Item}
use Rattle.session_states.specs.declared.item.Entry.{Entry}

abbrev pub items_of : ℕ → List Entry → List Item
items_of client [] = []
items_of client (entry ∷ entries) =
    if entry.client == client then entry.item ∷ items_of client entries else items_of client entries

abbrev pub ranks_of : ℕ → List Entry → List ℕ
ranks_of client [] = []
ranks_of client (entry ∷ entries) =
    if entry.client == client then entry.rank ∷ ranks_of client entries else ranks_of client entries

abbrev pub script_of : ℕ → List (ℕ × Item) → List Item
script_of client [] = []
script_of client (one ∷ sent) = if one.0 == client then one.1 ∷ script_of client sent else script_of client sent

abbrev pub CountUp : ℕ → List ℕ → Type 0
CountUp n [] = Unit {0}
CountUp n (m ∷ ms) = (m ≡ n) × CountUp (suc n) ms
