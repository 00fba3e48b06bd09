-- Which elements a list has, that a set is settled by its elements, and what keeps a list a set.
-- The lemmas of the last section take the order's laws first: that it is total, and that it is exact.
use Rattle.std.proofs.Common.{◌≡◌, Bool, true, false, not, cond, ◌&&◌, ◌||◌, List, [], ◌∷◌, ◌++◌, filter, Ordering}
use Rattle.std.proofs.Common.{Less, Equal, Greater, IsTrue, ◌↔◌, refl, sym, ap, ◌∙◌, arith}
use Rattle.std.specs.Ordering.{eq_by_cmp, match_ordering, ordering_reverse, is_eq}
use Rattle.std.specs.List.{AllByRecursion, Contains}
use Rattle.std.specs.List.Sorted.{IsStrictlySortedBy}
use Rattle.std.specs.BTreeSet.{insert_key}
use Rattle.std.specs.Set.{remove_key}
use Rattle.std.specs.Cmp.{IsTotalOrder}
use Rattle.std.proofs.lemmas.Cmp.{eq_by_cmp_equiv}
use Rattle.std.proofs.lemmas.List.Elements.{filter_agree}
use Rattle.std.proofs.lemmas.List.Kept.{IsStrictlySortedBy-filter}
use Rattle.std.proofs.lemmas.List.Sums.{fold-append, fold_push}
use Rattle.std.proofs.lemmas.Map.Lookups.{btree_set_from_contains}
use Rattle.std.proofs.lemmas.Map.Views.{any-filter_same, tells_apart, Contains-from_any, list_any-from_Contains}
use Rattle.rif_values.specs.Sets.{IsExact, has, with_all, without_all, ordered, IsSet}

-- ---- a choice by an order or by a test: P holds of what is chosen

pub by_order : {X : Type 0} (P : X → Type 0) (o : Ordering) (a b c : X) → (o ≡ Less → P a) → (o ≡ Equal → P b)
    → (o ≡ Greater → P c) → P (match_ordering o a b c)
by_order P Less a b c less equal greater = less refl
by_order P Equal a b c less equal greater = equal refl
by_order P Greater a b c less equal greater = greater refl

pub by_test : {X : Type 0} (P : X → Type 0) (b : Bool) (x y : X) → (b ≡ true → P x) → (b ≡ false → P y)
    → P (cond b x y)
by_test P true x y passes fails = passes refl
by_test P false x y passes fails = fails refl

-- ---- what needs no law of the order

module _ {K : Type 0} (cmp : K → K → Ordering) where
  -- two lists put in, one after the other
  pub with_all_append : (ws xs ys : List K) → with_all cmp ws (xs ++ ys) ≡ with_all cmp (with_all cmp ws xs) ys
  with_all_append ws xs ys = fold-append (insert_key cmp) ws xs ys

  -- one more element at the end
  pub with_all_push : (ws xs : List K) (x : K)
      → with_all cmp ws (xs ++ x ∷ []) ≡ insert_key cmp (with_all cmp ws xs) x
  with_all_push ws xs x = fold_push (insert_key cmp) ws xs x

  -- what holds of each element, and of one that is put in, holds of each afterwards
  pub all_insert : (P : K → Type 0) (xs : List K) (k : K) → P k → AllByRecursion P xs
      → AllByRecursion P (insert_key cmp xs k)
  all_insert P [] k p all = (p, tt)
  all_insert P (x ∷ xs) k p all =
      by_order (AllByRecursion P) (cmp k x) _ _ _ (λ _. (p, all)) (λ _. all) (λ _. (all.0, all_insert P xs k p all.1))

  -- the same of a list that is put in
  pub all_with_all : (P : K → Type 0) (xs ys : List K) → AllByRecursion P xs → AllByRecursion P ys
      → AllByRecursion P (with_all cmp xs ys)
  all_with_all P xs [] all more = all
  all_with_all P xs (y ∷ ys) all more = all_with_all P (insert_key cmp xs y) ys (all_insert P xs y more.0 all) more.1

-- a test that each element passes leaves all
pub filter_all : {K : Type 0} (p : K → Bool) (xs : List K) → AllByRecursion (λ x. p x ≡ true) xs → filter p xs ≡ xs
filter_all p [] all = refl
filter_all p (x ∷ xs) all =
    by_test (λ zs. zs ≡ x ∷ xs) (p x) _ _ (λ _. ap (λ zs. x ∷ zs) (filter_all p xs all.1)) (λ fails. absurd (cc))

-- what holds of each element holds of each that passes a test
pub all_filter : {K : Type 0} (P : K → Type 0) (p : K → Bool) (xs : List K) → AllByRecursion P xs
    → AllByRecursion P (filter p xs)
all_filter P p [] all = tt
all_filter P p (x ∷ xs) all =
    by_test (AllByRecursion P) (p x) _ _ (λ _. (all.0, all_filter P p xs all.1)) (λ _. all_filter P p xs all.1)

-- what holds of each element holds of each but the one that is taken out
pub all_remove : {K : Type 0} (P : K → Type 0) (p : K → Bool) (xs : List K) → AllByRecursion P xs
    → AllByRecursion P (remove_key p xs)
all_remove P p [] all = tt
all_remove P p (x ∷ xs) all =
    by_test (AllByRecursion P) (p x) _ _ (λ _. all.1) (λ _. (all.0, all_remove P p xs all.1))

-- ---- what needs a total order alone

module _ {K : Type 0} {cmp : K → K → Ordering} (total : IsTotalOrder cmp) where
  -- an element below the first is below all
  pub below_all : (k x : K) (xs : List K) → cmp k x ≡ Less → AllByRecursion (λ z. cmp x z ≡ Less) xs
      → AllByRecursion (λ z. cmp k z ≡ Less) xs
  below_all k x [] less all = tt
  below_all k x (z ∷ zs) less all = (total.trans k x z less all.0, below_all k x zs less all.1)

  -- an element put in keeps the order
  pub IsSet-insert_key : (xs : List K) (k : K) → IsSet cmp xs → IsSet cmp (insert_key cmp xs k)
  unfolding IsStrictlySortedBy
  IsSet-insert_key [] k s = (tt, tt)
  IsSet-insert_key (x ∷ xs) k s =
      by_order (IsSet cmp) (cmp k x) _ _ _ (λ less. ((less, below_all k x xs less s.0), s)) (λ _. s) (λ greater.
      let less : cmp x k ≡ Less = total.antisymm x k ∙ ap ordering_reverse greater in
      (all_insert cmp (λ z. cmp x z ≡ Less) xs k less s.0, IsSet-insert_key xs k s.1))

  -- a list put in keeps the order
  pub IsSet-with_all : (xs ys : List K) → IsSet cmp xs → IsSet cmp (with_all cmp xs ys)
  IsSet-with_all xs [] s = s
  IsSet-with_all xs (y ∷ ys) s = IsSet-with_all (insert_key cmp xs y) ys (IsSet-insert_key xs y s)

  -- a list put in order is a set
  pub IsSet-ordered : (xs : List K) → IsSet cmp (ordered cmp xs)
  unfolding IsStrictlySortedBy
  IsSet-ordered xs = IsSet-with_all [] xs tt

-- ---- what needs an order that is total and exact

module _ {K : Type 0} {cmp : K → K → Ordering} (total : IsTotalOrder cmp) (exact : IsExact cmp) where
  -- ---- one element

  -- elements that the test finds equal are one
  pub equal_is : (q x : K) → eq_by_cmp cmp q x ≡ true → q ≡ x
  equal_is q x same = tells_apart exact q x same

  -- an element is equal to itself
  pub equal_itself : (x : K) → eq_by_cmp cmp x x ≡ true
  equal_itself x = (eq_by_cmp_equiv total).refl x

  -- ---- sets

  -- sets with the same elements are one list
  pub same_set : (xs ys : List K) → IsSet cmp xs → IsSet cmp ys → ((q : K) → has cmp xs q ≡ has cmp ys q) → xs ≡ ys
  same_set xs ys s t same = btree_set_from_contains total (record { keys = xs }) (record { keys = ys }) s t same exact

  -- an element is there exactly where the list contains it
  pub has_contains : (xs : List K) (x : K) → IsTrue (has cmp xs x) ↔ Contains xs x
  has_contains xs x =
      (Contains-from_any (tells_apart exact) x xs, list_any-from_Contains (eq_by_cmp_equiv total) x xs)

  -- ---- which elements each word leaves

  -- two lists together have what either has
  pub has_append : (xs ys : List K) (q : K) → has cmp (xs ++ ys) q ≡ (has cmp xs q || has cmp ys q)
  has_append [] ys q = refl
  has_append (x ∷ xs) ys q = let later = has_append xs ys q in grind arith

  -- a filter leaves what passes
  pub has_filter : (p : K → Bool) (xs : List K) (q : K) → has cmp (filter p xs) q ≡ (p q && has cmp xs q)
  has_filter p xs q = any-filter_same (eq_by_cmp cmp q) p (p q) (λ x same. ap p (sym (equal_is q x same))) xs

  -- an element put in is there, and so is what was there
  pub has_insert : (xs : List K) (k q : K) → has cmp (insert_key cmp xs k) q ≡ (eq_by_cmp cmp q k || has cmp xs q)
  has_insert [] k q = refl
  has_insert (x ∷ xs) k q =
      by_order (λ zs. has cmp zs q ≡ (eq_by_cmp cmp q k || has cmp (x ∷ xs) q)) (cmp k x) _ _ _ (λ _. refl)
      (λ equal. let same = ap (λ (z : K). eq_by_cmp cmp q z) (exact k x equal) in grind (arith, same))
      (λ _. let later = has_insert xs k q in grind (arith, later))

  -- a list put in is there, and so is what was there
  pub has_with_all : (xs ys : List K) (q : K) → has cmp (with_all cmp xs ys) q ≡ (has cmp ys q || has cmp xs q)
  has_with_all xs [] q = refl
  has_with_all xs (y ∷ ys) q =
      let later = has_with_all (insert_key cmp xs y) ys q in
      let now = has_insert xs y q in grind (arith, later, now)

  -- a list put in order has the same elements
  pub has_ordered : (xs : List K) (q : K) → has cmp (ordered cmp xs) q ≡ has cmp xs q
  has_ordered xs q = let all = has_with_all [] xs q in grind (arith, all)

  -- ---- what keeps a list a set

  -- no elements are a set
  pub set_empty : IsSet cmp []
  unfolding IsStrictlySortedBy
  set_empty = tt

  -- a set with an element put in is a set
  pub set_insert : (xs : List K) (k : K) → IsSet cmp xs → IsSet cmp (insert_key cmp xs k)
  set_insert = IsSet-insert_key total

  -- a set with a list put in is a set
  pub set_with_all : (xs ys : List K) → IsSet cmp xs → IsSet cmp (with_all cmp xs ys)
  set_with_all = IsSet-with_all total

  -- a list put in order is a set
  pub set_ordered : (xs : List K) → IsSet cmp (ordered cmp xs)
  set_ordered = IsSet-ordered total

  -- what passes of a set is a set
  pub set_filter : (p : K → Bool) (xs : List K) → IsSet cmp xs → IsSet cmp (filter p xs)
  set_filter = IsStrictlySortedBy-filter cmp

  -- a set with an element taken out is a set
  pub set_remove : (p : K → Bool) (xs : List K) → IsSet cmp xs → IsSet cmp (remove_key p xs)
  unfolding IsStrictlySortedBy
  set_remove p [] s = s
  set_remove p (x ∷ xs) s =
      by_test (IsSet cmp) (p x) _ _ (λ _. s.1) (λ _. (all_remove (λ z. cmp x z ≡ Less) p xs s.0, set_remove p xs s.1))

  -- a set with each of a list taken out is a set
  pub set_without_all : (xs ys : List K) → IsSet cmp xs → IsSet cmp (without_all cmp xs ys)
  set_without_all xs [] s = s
  set_without_all xs (y ∷ ys) s =
      set_without_all (remove_key (eq_by_cmp cmp y) xs) ys (set_remove (eq_by_cmp cmp y) xs s)

  -- ---- one element taken out of a set

  -- the first element stands nowhere else
  apart_from_first : (q x : K) (xs : List K) → q ≡ x → AllByRecursion (λ z. cmp x z ≡ Less) xs
      → AllByRecursion (λ z. not (eq_by_cmp cmp q z) ≡ true) xs
  apart_from_first q x [] same less = tt
  apart_from_first q x (z ∷ zs) same less =
      let apart = ap (λ (y : K). not (eq_by_cmp cmp y z)) same ∙ ap (λ o. not (is_eq o)) less.0 in
      (apart, apart_from_first q x zs same less.1)

  -- one step of a filter, and of taking out
  first_goes_or_stays : (b : Bool) (x : K) (xs filtered left : List K) → (b ≡ true → filtered ≡ xs) → filtered ≡ left
      → cond (not b) (x ∷ filtered) filtered ≡ cond b xs (x ∷ left)
  first_goes_or_stays true x xs filtered left goes stays = goes refl
  first_goes_or_stays false x xs filtered left goes stays = ap (λ zs. x ∷ zs) stays

  -- the lemma below, with the two elements compared the other way round
  filter_remove_first : (q : K) (xs : List K) → IsSet cmp xs
      → filter (λ x. not (eq_by_cmp cmp q x)) xs ≡ remove_key (eq_by_cmp cmp q) xs
  unfolding IsStrictlySortedBy
  filter_remove_first q [] s = refl
  filter_remove_first q (x ∷ xs) s =
      first_goes_or_stays (eq_by_cmp cmp q x) x xs _ _
      (λ same. filter_all _ xs (apart_from_first q x xs (equal_is q x same) s.0)) (filter_remove_first q xs s.1)

  -- an element stands in a set once, so a filter takes it out
  pub filter_remove : (q : K) (xs : List K) → IsSet cmp xs
      → filter (λ x. not (eq_by_cmp cmp x q)) xs ≡ remove_key (eq_by_cmp cmp q) xs
  filter_remove q xs s =
      filter_agree _ _ (λ x. ap not ((eq_by_cmp_equiv total).symm x q)) xs ∙ filter_remove_first q xs s

  -- an element taken out of a set isn't there, and the others are
  pub has_remove : (y : K) (xs : List K) (q : K) → IsSet cmp xs
      → has cmp (remove_key (eq_by_cmp cmp y) xs) q ≡ (not (eq_by_cmp cmp q y) && has cmp xs q)
  has_remove y xs q s =
      ap (λ zs. has cmp zs q) (sym (filter_remove y xs s)) ∙ has_filter (λ x. not (eq_by_cmp cmp x y)) xs q

  -- a list taken out of a set isn't there, and the other elements are
  pub has_without_all : (xs ys : List K) (q : K) → IsSet cmp xs
      → has cmp (without_all cmp xs ys) q ≡ (not (has cmp ys q) && has cmp xs q)
  has_without_all xs [] q s = refl
  has_without_all xs (y ∷ ys) q s =
      let later = has_without_all (remove_key (eq_by_cmp cmp y) xs) ys q (set_remove (eq_by_cmp cmp y) xs s) in
      let now = has_remove y xs q s in grind (arith, later, now)
