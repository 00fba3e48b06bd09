-- What the users of a shared list say of it.
--     ListId                    which list it is: what it is made of, how many seats were made with it, and how many
--                               places it has, where they end
--     entries_of client es      the client's entries among those, in order
--     IsRefusal old fault new   a push is refused for this, by a seat with that refusal before and this one after
--     Tells id claims shut f    what a seat's refusal says of its list at the end
--     claims_of s               how many places a seat has asked for: one for each accepted item, one for a refusal
-- Source: the project's own (docs/PROFILE.md, "Clients").
use Rattle.std.specs.Prelude.{◌≡◌, ℕ, ◌<◌, ◌⊎◌, ◌==◌, Bool, true, List, [], ◌∷◌, Some, None, MatchOption}
use Rattle.std.specs.Prelude.{if◌then◌else◌}
use Rattle.std.specs.declared.option.Option.{Option}
use Rattle.atomic_table.specs.Seated.{TableId}
use Rattle.session_states.specs.declared.item.Entry.{Entry}
use Rattle.prop_list.specs.declared.propagation.PushFault.{PushFault}
use Rattle.prop_list.specs.declared.propagation.PushFault.TheVariants.{Disposed, Full, OutOfMemory}

-- what a list is made of: a queue, or a table of words and slots
pub data Store : Type 0 where
  queue : ℕ × ℕ → Store
  table : TableId → Store

pub record ListId : Type 0 where
  pub store : Store
  pub seats : ℕ
  pub capacity : Option ℕ

abbrev pub entries_of : ℕ → List Entry → List Entry
entries_of client [] = []
entries_of client (entry ∷ entries) =
    if entry.client == client then entry ∷ entries_of client entries else entries_of client entries

-- a seat that was refused for good answers the same again; else want of memory leaves it as it was, and every other
-- refusal stays
abbrev pub IsRefusal : Option PushFault → PushFault → Option PushFault → Type 0
IsRefusal None fault new = ((fault ≡ OutOfMemory) × (new ≡ None)) ⊎ (new ≡ Some fault)
IsRefusal (Some old) fault new = (fault ≡ old) × (new ≡ Some old)

abbrev pub count_of : {A : Type 0} → Option A → ℕ
count_of None = 0
count_of (Some x) = 1

-- a list was shut that refused a seat as disposed; one that refused a seat as full was asked for more places than it
-- has, and nothing is told of want of memory, which refuses nobody for good
abbrev pub Tells : ListId → ℕ → Bool → PushFault → Type 0
Tells id claims shut (Disposed ticket) = shut ≡ true
Tells id claims shut (Full place) = MatchOption id.capacity ⊥ (λ places. places < claims)
Tells id claims shut OutOfMemory = ⊥
