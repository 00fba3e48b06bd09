-- The batches of a script for one thread.
--     script_entries job          the entries of a job's items
--     batches_of_entries es       the batches of a script's entries
--     left_of_entries es          the entries behind the first Dispose
-- Source: the project's own (docs/PROFILE.md, "Replay").
use Rattle.std.specs.Prelude.{suc, ◌+◌, ◌==◌, ◌||◌, ℕ, Bool, true, false, List, [], ◌∷◌, ◌++◌, count_by, drop}
use Rattle.std.specs.Prelude.{if◌then◌else◌, take}
use Rattle.rif_refusals.specs.Limits.{most_batch_items}
use Rattle.session_states.specs.declared.item.Item.{Item}
use Rattle.session_states.specs.declared.item.Item.TheVariants.{Change, Fire, Until, Halt, Dispose}
use Rattle.session_states.specs.declared.item.Entry.{Entry}
use Rattle.session_states.specs.Batches.{is_dispose}
use Rattle.rif_script.specs.declared.job.Job.{Job}

-- how many of the items a client sent
abbrev pub sent_count : ℕ → List (ℕ × Item) → ℕ
sent_count client items = count_by (λ sent. sent.0 == client) items

-- the entries of items that stand behind others
abbrev pub entries_after : List (ℕ × Item) → List (ℕ × Item) → List Entry
entries_after before [] = []
entries_after before (sent ∷ items) =
    record { client = sent.0; rank = sent_count sent.0 before; item = sent.1 } ∷
    entries_after (before ++ sent ∷ []) items

abbrev pub script_entries : Job → List Entry
script_entries job = entries_after [] job.items

-- an item that isn't a change of facts
abbrev pub is_control : Item → Bool
is_control (Change c) = false
is_control (Fire budget) = true
is_control (Until budget) = true
is_control Halt = true
is_control Dispose = true

-- how many entries there are up to the first Dispose, and with it
abbrev pub served_count : List Entry → ℕ
served_count [] = 0
served_count (entry ∷ entries) = if is_dispose entry.item then 1 else suc (served_count entries)

-- whether an item ends a batch in which so many stand before it
abbrev pub ends_behind : ℕ → Item → Bool
ends_behind before item = is_control item || before + 1 == most_batch_items

-- an entry before those of the first batch
abbrev pub with_first : Entry → List (List Entry) → List (List Entry)
with_first entry [] = (entry ∷ []) ∷ []
with_first entry (batch ∷ batches) = (entry ∷ batch) ∷ batches

-- the batches of entries, where so many entries of the first one stand before them
abbrev pub batches_behind : ℕ → List Entry → List (List Entry)
batches_behind before [] = []
batches_behind before (entry ∷ entries) =
    if ends_behind before entry.item then (entry ∷ []) ∷ batches_behind 0 entries else with_first entry
    (batches_behind (before + 1) entries)

abbrev pub batches_of_entries : List Entry → List (List Entry)
batches_of_entries entries = batches_behind 0 (take (served_count entries) entries)

abbrev pub left_of_entries : List Entry → List Entry
left_of_entries entries = drop (served_count entries) entries
