-- What the words of sets and changes promise: the statements of the laws in src/set_laws.rt. Each holds of a total
-- order; those that end in an equation between lists, or speak of `Contains`, of one that also tells all apart.
-- Source: the project's own way to write finite sets.
use Rattle.std.specs.Prelude.{◌≡◌, not, ◌&&◌, ◌||◌, List, IsTrue, ◌↔◌}
use Rattle.std.specs.declared.cmp.Ordering.{Ordering}
use Rattle.std.specs.List.{Contains}
use Rattle.rif_values.specs.Sets.{has, with_all, without_all, ordered, IsSet, patched, IsNet, IsChangeOf, both_added}

module _ {K : Type 0} (cmp : K → K → Ordering) where
  -- an element is had exactly where it is contained
  abbrev pub HasWhatIsContained : Type 0
  HasWhatIsContained = (xs : List K) (x : K) → IsTrue (has cmp xs x) ↔ Contains xs x

  -- sets with the same elements are one list
  abbrev pub IsSettledByElements : Type 0
  IsSettledByElements = (xs ys : List K) → IsSet cmp xs → IsSet cmp ys
      → ((q : K) → has cmp xs q ≡ has cmp ys q) → xs ≡ ys

  -- a list put in order is a set of the same elements
  abbrev pub OrdersAnyList : Type 0
  OrdersAnyList = (xs : List K) → IsSet cmp (ordered cmp xs) × ((q : K) → has cmp (ordered cmp xs) q ≡ has cmp xs q)

  -- a set put in order is itself
  abbrev pub LeavesASetInOrder : Type 0
  LeavesASetInOrder = (set : List K) → IsSet cmp set → ordered cmp set ≡ set

  -- a change leaves a set, with what is added and with what was there and isn't removed
  abbrev pub AddsAndRemoves : Type 0
  AddsAndRemoves = (old more less : List K) → IsSet cmp old → IsSet cmp (patched cmp old more less)
      × ((q : K) → has cmp (patched cmp old more less) q
      ≡ (has cmp more q || (not (has cmp less q) && has cmp old q)))

  -- taking out and then putting in, one after the other, is the change
  abbrev pub IsDoneOneByOne : Type 0
  IsDoneOneByOne = (old more less : List K) → IsSet cmp old
      → with_all cmp (without_all cmp old less) more ≡ patched cmp old more less

  -- a net change adds what the new set alone has, and removes what the old set alone has
  abbrev pub TellsTheDifference : Type 0
  TellsTheDifference = (old new more less : List K) → IsNet cmp old new more less
      → (q : K) → (has cmp more q ≡ (not (has cmp old q) && has cmp new q))
      × (has cmp less q ≡ (not (has cmp new q) && has cmp old q))

  -- a net change leads to the new set
  abbrev pub LeadsToTheNewSet : Type 0
  LeadsToTheNewSet = (old new more less : List K) → IsSet cmp old → IsSet cmp new → IsNet cmp old new more less
      → patched cmp old more less ≡ new

  -- a net change can be done
  abbrev pub CanBeDone : Type 0
  CanBeDone = (old new more less : List K) → IsSet cmp old → IsSet cmp new → IsNet cmp old new more less
      → IsChangeOf cmp old more less

  -- a change that can be done is the net change to what it leads to
  abbrev pub IsNetOfWhatItLeadsTo : Type 0
  IsNetOfWhatItLeadsTo = (old more less : List K) → IsSet cmp old → IsChangeOf cmp old more less
      → IsNet cmp old (patched cmp old more less) more less

  -- a change, and one that can be done after it, are together the net change from the first set to the last
  abbrev pub AreTogetherOne : Type 0
  AreTogetherOne = (old more less later_more later_less : List K) → IsSet cmp old
      → IsChangeOf cmp old more less → IsChangeOf cmp (patched cmp old more less) later_more later_less
      → IsNet cmp old (patched cmp (patched cmp old more less) later_more later_less)
      (both_added cmp more less later_more later_less) (both_added cmp less more later_less later_more)
