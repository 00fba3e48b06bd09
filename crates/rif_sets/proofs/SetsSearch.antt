-- What a binary search finds in a set.
use Rattle.std.proofs.Common.{◌≡◌, ℕ, zero, suc, ◌≤◌, ◌<◌, Bool, true, false, ◌||◌, List, [], ◌∷◌, length, get_or}
use Rattle.std.proofs.Common.{Ordering, Less, Equal, Greater, Result, Ok, Err, IfOk, IfErr, refl, sym, ap, ◌∙◌, arith}
use Rattle.std.specs.Ordering.{ordering_index, ordering_reverse, match_ordering, is_eq}
use Rattle.std.specs.List.{AllByRecursion, AllWithin, HoldsAt, insert}
use Rattle.std.specs.List.Sorted.{IsStrictlySortedBy, IsNonDecreasingBy, IsSearchInRange, IsBinarySearchResult}
use Rattle.std.specs.BTreeSet.{insert_key}
use Rattle.std.specs.Cmp.{IsTotalOrder}
use Rattle.rif_values.specs.Sets.{has, IsSet}

greatest_index : (o : Ordering) → ordering_index o ≤ 2
greatest_index Less = omega arith
greatest_index Equal = omega arith
greatest_index Greater = omega arith

index_up : (o p : Ordering) → (p ≡ Less → o ≡ Less) → (p ≡ Equal → o ≡ Less) → ordering_index o ≤ ordering_index p
index_up o Less less equal = rw (less refl) (omega arith)
index_up o Equal less equal = rw (equal refl) (omega arith)
index_up o Greater less equal = greatest_index o

module _ {K : Type 0} {cmp : K → K → Ordering} (total : IsTotalOrder cmp) where
  -- the other way round
  turned : (x y : K) (o : Ordering) → cmp x y ≡ o → cmp y x ≡ ordering_reverse o
  turned x y o is = total.antisymm y x ∙ ap ordering_reverse is

  -- what compares alike with k is above what is below it
  below_alike : (x y k : K) → cmp x y ≡ Less → cmp y k ≡ Equal → cmp x k ≡ Less
  below_alike x y k less alike =
      let above : cmp k x ≡ Greater = sym (total.congr y k x alike) ∙ turned x y Less less in turned k x Greater above

  -- along a set the comparisons with k rise
  index_rises : (x y k : K) → cmp x y ≡ Less → ordering_index (cmp x k) ≤ ordering_index (cmp y k)
  index_rises x y k less =
      index_up (cmp x k) (cmp y k) (λ below. total.trans x y k less below) (λ alike. below_alike x y k less alike)

  first_index : (x k : K) (ys : List K) → AllByRecursion (λ y. cmp x y ≡ Less) ys → (j : ℕ) (d : K) → j < length ys
      → ordering_index (cmp x k) ≤ ordering_index (cmp (get_or ys j d) k)
  first_index x k [] all j d within = absurd (omega arith)
  first_index x k (y ∷ ys) all zero d within = index_rises x y k all.0
  first_index x k (y ∷ ys) all (suc j) d within = first_index x k ys all.1 j d (omega arith)

  pub comparisons_rise : (set : List K) (k : K) → IsSet cmp set
      → IsNonDecreasingBy (λ y. ordering_index (cmp y k)) set
  unfolding IsStrictlySortedBy
  comparisons_rise [] k s i j d up within = absurd (omega arith)
  comparisons_rise (x ∷ xs) k s zero zero d up within = omega arith
  comparisons_rise (x ∷ xs) k s zero (suc j) d up within = first_index x k xs s.0 j d (omega arith)
  comparisons_rise (x ∷ xs) k s (suc i) zero d up within = absurd (omega arith)
  comparisons_rise (x ∷ xs) k s (suc i) (suc j) d up within =
      comparisons_rise xs k s.1 i j d (omega arith) (omega arith)

  -- ---- what is found

  any_first : (b c : Bool) → b ≡ true → (b || c) ≡ true
  any_first true c is = refl
  any_first false c is = cc

  any_later : (b c : Bool) → c ≡ true → (b || c) ≡ true
  any_later true c is = refl
  any_later false c is = is

  -- an element that compares alike is there
  pub has_found : (xs : List K) (k : K) (i : ℕ) → i < length xs → HoldsAt (λ y. cmp y k ≡ Equal) xs i
      → has cmp xs k ≡ true
  has_found [] k i within alike = absurd (omega arith)
  has_found (x ∷ xs) k zero within alike = any_first _ _ (ap is_eq (turned x k Equal (alike k)))
  has_found (x ∷ xs) k (suc i) within alike = any_later _ _ (has_found xs k i (omega arith) alike)

  -- ---- what isn't found

  none_of_both : (b c : Bool) → b ≡ false → c ≡ false → (b || c) ≡ false
  none_of_both b c first later = rw first later

  -- nothing of what is above is alike
  none_above : (xs : List K) (k : K) → AllWithin (λ y. cmp y k ≡ Greater) xs 0 (length xs) → has cmp xs k ≡ false
  none_above [] k above = refl
  none_above (x ∷ xs) k above =
      none_of_both _ _ (ap is_eq (turned x k Greater (above 0 x (omega arith) (omega arith))))
      (none_above xs k (λ j d low high. above (suc j) d (omega arith) (omega arith)))

  pub none_found : (xs : List K) (k : K) (i : ℕ) → i ≤ length xs → AllWithin (λ y. cmp y k ≡ Less) xs 0 i
      → AllWithin (λ y. cmp y k ≡ Greater) xs i (length xs) → has cmp xs k ≡ false
  none_found [] k i within below above = refl
  none_found (x ∷ xs) k zero within below above = none_above (x ∷ xs) k above
  none_found (x ∷ xs) k (suc i) within below above =
      none_of_both _ _ (ap is_eq (turned x k Less (below 0 x (omega arith) (omega arith))))
      (none_found xs k i (omega arith) (λ j d low high. below (suc j) d (omega arith) (omega arith))
      (λ j d low high. above (suc j) d (omega arith) (omega arith)))

  -- an element is put between those below it and those above it
  pub put_between : (xs : List K) (k : K) (i : ℕ) → i ≤ length xs → AllWithin (λ y. cmp y k ≡ Less) xs 0 i
      → AllWithin (λ y. cmp y k ≡ Greater) xs i (length xs) → insert_key cmp xs k ≡ insert xs i k
  put_between [] k zero within below above = refl
  put_between [] k (suc i) within below above = absurd (omega arith)
  put_between (x ∷ xs) k zero within below above =
      ap (λ o. match_ordering o (k ∷ x ∷ xs) (x ∷ xs) (x ∷ insert_key cmp xs k))
      (turned x k Greater (above 0 x (omega arith) (omega arith)))
  put_between (x ∷ xs) k (suc i) within below above =
      ap (λ o. match_ordering o (k ∷ x ∷ xs) (x ∷ xs) (x ∷ insert_key cmp xs k))
      (turned x k Less (below 0 x (omega arith) (omega arith)))
      ∙ ap (λ ys. x ∷ ys) (put_between xs k i (omega arith)
      (λ j d low high. below (suc j) d (omega arith) (omega arith))
      (λ j d low high. above (suc j) d (omega arith) (omega arith)))

  -- what a binary search answers, in the words of sets
  pub searched : (xs : List K) (k : K) (r : Result ℕ ℕ) → IsSet cmp xs → IsSearchInRange r (length xs)
      → IsBinarySearchResult (λ y. cmp y k) xs r
      → record {
        found : IfOk r (λ at. has cmp xs k ≡ true);
        absent : IfErr r (λ at. has cmp xs k ≡ false);
        place : IfErr r (λ at. insert_key cmp xs k ≡ insert xs at k);
      }
  searched xs k (Ok at) s within alike = record { found = has_found xs k at within alike; absent = tt; place = tt }
  searched xs k (Err at) s within parted =
      let between = parted (comparisons_rise xs k s) in record {
        found = tt;
        absent = none_found xs k at within between.0 between.1;
        place = put_between xs k at within between.0 between.1;
      }
