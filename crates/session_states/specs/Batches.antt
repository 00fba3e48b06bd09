-- Which entries enter a session together, and which lists of such batches there are.
--     ends_batch i             whether an item stands only at the end of a batch
--     IsLawful entries         the entries may be one batch
--     ends_in test batch       whether the last item of a batch passes a test
--     is_disposing batch       whether a batch ends in a Dispose
--     joined batches more      the entries of batches one after another, and then more
--     AreLawfulBatches bs      each batch is lawful, none is empty, and none stands behind one that ends in a Dispose
-- Source: the project's own (docs/PROFILE.md, "Batches").
use Rattle.std.specs.Prelude.{◌≡◌, ◌≢◌, ◌≤◌, ◌-◌, Bool, true, false, List, [], ◌∷◌, ◌++◌, length, slice_get}
use Rattle.std.specs.Option.{option_map_or}
use Rattle.rif_refusals.specs.Limits.{most_batch_items}
use Rattle.session_states.specs.declared.item.Item.{Item}
use Rattle.session_states.specs.declared.item.Item.TheVariants.{Change, Fire, Until, Halt, Dispose}
use Rattle.session_states.specs.declared.item.Entry.{Entry}

abbrev pub ends_batch : Item → Bool
ends_batch (Change c) = false
ends_batch (Fire more) = false
ends_batch (Until more) = false
ends_batch Halt = true
ends_batch Dispose = true

-- only the last entry may end a batch
abbrev pub EndsLast : List Entry → Type 0
EndsLast [] = Unit {0}
EndsLast (entry ∷ []) = Unit {0}
EndsLast (entry ∷ next ∷ entries) = (ends_batch entry.item ≡ false) × EndsLast (next ∷ entries)

pub record IsLawful (entries : List Entry) : Type 0 where
  pub few : length entries ≤ most_batch_items
  pub ends_last : EndsLast entries

-- whether there is a last entry, whose item passes a test
abbrev pub ends_in : (Item → Bool) → List Entry → Bool
ends_in test batch = option_map_or (λ entry. test entry.item) (slice_get batch (length batch - 1)) false

abbrev pub is_dispose : Item → Bool
is_dispose (Change c) = false
is_dispose (Fire more) = false
is_dispose (Until more) = false
is_dispose Halt = false
is_dispose Dispose = true

abbrev pub is_disposing : List Entry → Bool
is_disposing batch = ends_in is_dispose batch

abbrev pub joined : List (List Entry) → List Entry → List Entry
joined [] more = more
joined (batch ∷ batches) more = batch ++ joined batches more

-- the same of batches that stand behind one which ends in a Dispose, or doesn't
abbrev pub AreLawfulBehind : Bool → List (List Entry) → Type 0
AreLawfulBehind disposed [] = Unit {0}
AreLawfulBehind disposed (batch ∷ batches) =
    IsLawful batch × (batch ≢ []) × (disposed ≡ false) × AreLawfulBehind (is_disposing batch) batches

abbrev pub AreLawfulBatches : List (List Entry) → Type 0
AreLawfulBatches batches = AreLawfulBehind false batches
