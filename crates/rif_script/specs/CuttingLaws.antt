-- What the cut of a script keeps.
--     CutKeepsAll               the batches joined, and then what is left, are all entries
--     CutIsLawful               each batch is lawful, none is empty, and none follows one that ends in a Dispose
--     CutEndsBatches            a control item ends its batch, and a batch before the last ends in one or is full
--     CutLeavesBehindDispose    where entries are left, a Dispose ends those before them
--     EntriesFollowScripts      a client's entries are its items with the ranks 0, 1, 2 and so on
-- Source: the project's own (docs/PROFILE.md, "Replay").
use Rattle.std.specs.Prelude.{◌≡◌, ◌≢◌, ◌==◌, ◌||◌, ℕ, true, false, List, [], ◌∷◌, length}
use Rattle.rif_refusals.specs.Limits.{most_batch_items}
use Rattle.session_states.specs.declared.item.Item.{Item}
use Rattle.session_states.specs.declared.item.Entry.{Entry}
use Rattle.session_states.specs.Batches.{AreLawfulBatches, ends_in, is_dispose, joined}
use Rattle.session_states.specs.Clients.{CountUp, items_of, ranks_of, script_of}
use Rattle.rif_script.specs.Cutting.{batches_of_entries, entries_after, is_control, left_of_entries}

abbrev pub CutKeepsAll : Type 0
CutKeepsAll = (entries : List Entry) → joined (batches_of_entries entries) (left_of_entries entries) ≡ entries

abbrev pub CutIsLawful : Type 0
CutIsLawful = (entries : List Entry) → AreLawfulBatches (batches_of_entries entries)

-- no entry but the last is a control item
abbrev pub ControlsLast : List Entry → Type 0
ControlsLast [] = Unit {0}
ControlsLast (entry ∷ []) = Unit {0}
ControlsLast (entry ∷ next ∷ entries) = (is_control entry.item ≡ false) × ControlsLast (next ∷ entries)

-- a control item ends its batch, and a batch before the last ends in one or is full
abbrev pub AreEnded : List (List Entry) → Type 0
AreEnded [] = Unit {0}
AreEnded (batch ∷ []) = ControlsLast batch
AreEnded (batch ∷ next ∷ batches) =
    ControlsLast batch × ((ends_in is_control batch || length batch == most_batch_items) ≡ true) ×
    AreEnded (next ∷ batches)

abbrev pub CutEndsBatches : Type 0
CutEndsBatches = (entries : List Entry) → AreEnded (batches_of_entries entries)

abbrev pub CutLeavesBehindDispose : Type 0
CutLeavesBehindDispose =
    (entries : List Entry) → left_of_entries entries ≢ [] →
    ends_in is_dispose (joined (batches_of_entries entries) []) ≡ true

abbrev pub EntriesFollowScripts : Type 0
EntriesFollowScripts =
    (items : List (ℕ × Item)) (client : ℕ) →
    (items_of client (entries_after [] items) ≡ script_of client items) ×
    CountUp 0 (ranks_of client (entries_after [] items))
