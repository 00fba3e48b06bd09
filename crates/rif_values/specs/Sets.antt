-- Finite sets as lists in order without repeats, and changes of them. `cmp` is the order of the elements.
--     IsExact cmp                       elements that compare alike are one
--     has xs q                          whether the list xs has q
--     with_all xs ys                    xs, with each of ys put at its place
--     without_all xs ys                 xs, with each of ys taken out
--     ordered xs                        the elements of xs in order, each once
--     IsSet xs                          xs is in order without repeats
--     beyond old new                    what new has and old hasn't
--     patched old more less             old without less, and then with more
--     IsNet old new more less           more and less are the net change from old to new
--     IsChangeOf old more less          the change can be done to old: more isn't there, and less is
--     both_added more less more' less'  what two changes, one after the other, add together.
--                                       With each more and less exchanged: what they remove
-- Source: the project's own way to write finite sets. RIF-PRD's states of facts are sets.
use Rattle.std.specs.Prelude.{◌≡◌, Bool, false, not, ◌&&◌, List, [], filter, fold}
use Rattle.std.specs.declared.cmp.Ordering.{Ordering}
use Rattle.std.specs.declared.cmp.Ordering.TheVariants.{Equal}
use Rattle.std.specs.Ordering.{eq_by_cmp}
use Rattle.std.specs.List.{list_any}
use Rattle.std.specs.List.Sorted.{IsStrictlySortedBy}
use Rattle.std.specs.BTreeSet.{insert_key}
use Rattle.std.specs.Set.{remove_key}

module _ {K : Type 0} (cmp : K → K → Ordering) where
  -- elements that compare alike are one
  abbrev pub IsExact : Type 0
  IsExact = (x y : K) → cmp x y ≡ Equal → x ≡ y

  -- whether an element of xs compares alike with q
  abbrev pub has : List K → K → Bool
  has xs q = list_any (eq_by_cmp cmp q) xs

  -- xs, with each of ys put at its place unless it is there already
  abbrev pub with_all : List K → List K → List K
  with_all xs ys = fold (insert_key cmp) xs ys

  -- xs, with each of ys taken out if it is there
  abbrev pub without_all : List K → List K → List K
  without_all xs ys = fold (λ zs y. remove_key (eq_by_cmp cmp y) zs) xs ys

  -- the elements of xs in order, each once
  abbrev pub ordered : List K → List K
  ordered xs = with_all [] xs

  -- each element is below those after it
  abbrev pub IsSet : List K → Type 0
  IsSet = IsStrictlySortedBy cmp

  -- what new has and old hasn't
  abbrev pub beyond : List K → List K → List K
  beyond old new = filter (λ x. not (has old x)) new

  -- old without less, and then with more
  abbrev pub patched : List K → List K → List K → List K
  patched old more less = with_all (filter (λ x. not (has less x)) old) more

  -- more and less are the net change from old to new
  pub record IsNet (old new more less : List K) : Type 0 where
    pub added : more ≡ beyond old new
    pub removed : less ≡ beyond new old

  -- the change can be done to old: it adds what isn't there, and removes what is
  pub record IsChangeOf (old more less : List K) : Type 0 where
    pub added_set : IsSet more
    pub removed_set : IsSet less
    pub added_new : (q : K) → (has more q && has old q) ≡ false
    pub removed_old : (q : K) → (has less q && not (has old q)) ≡ false

  -- what is added by two changes, one after the other, and not removed by the second, nor put back by it
  abbrev pub both_added : List K → List K → List K → List K → List K
  both_added more less later_more later_less =
      with_all (filter (λ x. not (has later_less x)) more) (filter (λ x. not (has less x)) later_more)
