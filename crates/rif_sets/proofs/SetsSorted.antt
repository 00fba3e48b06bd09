-- What a stable sort and then `dedup` leave of a list is the list in order, each element once.
-- Of elements that compare alike all three keep the first, so the order need not be exact.
use Rattle.std.proofs.Common.{◌≡◌, ℕ, Bool, true, false, not, cond, ◌&&◌, List, [], ◌∷◌, ◌++◌, length, take, drop}
use Rattle.std.proofs.Common.{filter, find, Option, Some, None, Ordering, Less, Equal, Greater, refl, sym, ap, ◌∙◌}
use Rattle.std.proofs.Common.{subst}
use Rattle.std.specs.Ordering.{eq_by_cmp, ordering_reverse, is_eq, is_lt}
use Rattle.std.specs.Option.{option_or}
use Rattle.std.specs.List.{AllByRecursion, dedup, dedup_from}
use Rattle.std.specs.List.Sorted.{IsStrictlySortedBy, IsSorted, IsStable, ties}
use Rattle.std.specs.BTreeSet.{insert_key}
use Rattle.std.specs.Cmp.{IsTotalOrder}
use Rattle.std.proofs.Math.Seq.{take-append_seam}
use Rattle.std.proofs.lemmas.Cmp.{alike_right, tied_itself}
use Rattle.std.proofs.lemmas.List.Kept.{IsStrictlySortedBy-dedup}
use Rattle.rif_values.specs.Sets.{with_all, ordered, IsSet}
use Rattle.rif_sets.proofs.SetsMembers.{by_order, by_test, below_all, IsSet-insert_key, IsSet-ordered}

-- a `Vec` into all of whose places a slice as long was written
pub written_back : {X : Type 0} (n : ℕ) (old new : List X) → length new ≡ n
    → take n (new ++ drop (length new) old) ≡ new
written_back n old new long =
    let rest = drop (length new) old in ap (λ k. take k (new ++ rest)) (sym long) ∙ take-append_seam new rest

-- ---- choices of an element

-- an answer for which the test of it holds is `Equal`
is_equal : (o : Ordering) → is_eq o ≡ true → o ≡ Equal
is_equal Less test = cc
is_equal Equal test = refl
is_equal Greater test = cc

-- the first that passes is the first of those that pass
find_filter : {X : Type 0} (p : X → Bool) (xs : List X) → find p (filter p xs) ≡ find p xs
find_filter p [] = refl
find_filter {X} p (x ∷ xs) = by_answer (p x) refl (find_filter p xs)
  where
    by_answer : (b : Bool) → p x ≡ b → find p (filter p xs) ≡ find p xs
        → find p (cond b (x ∷ filter p xs) (filter p xs)) ≡ cond b (Some x) (find p xs)
    by_answer true passes later = ap (λ b. cond b (Some x) (find p (filter p xs))) passes
    by_answer false fails later = later

module _ {K : Type 0} where
  -- nothing behind the first
  or_none : (first : Option K) → option_or first None ≡ first
  or_none None = refl
  or_none (Some y) = refl

  -- of three, the last two may be taken together
  or_step : (first : Option K) (test : Bool) (x : K) (later : Option K)
      → option_or (option_or first (cond test (Some x) None)) later ≡ option_or first (cond test (Some x) later)
  or_step None true x later = refl
  or_step None false x later = refl
  or_step (Some y) test x later = refl

  -- k in front of what has none alike
  or_front : (test : Bool) (k : K) (first : Option K) → (test ≡ true → first ≡ None)
      → cond test (Some k) first ≡ option_or first (cond test (Some k) None)
  or_front true k first none = ap (λ (o : Option K). option_or o (Some k)) (sym (none refl))
  or_front false k first none = sym (or_none first)

  -- k left out where x is alike
  or_there : (test : Bool) (k x : K) (first : Option K) → (test ≡ true → first ≡ Some x)
      → first ≡ option_or first (cond test (Some k) None)
  or_there true k x first there = there refl ∙ ap (λ (o : Option K). option_or o (Some k)) (sym (there refl))
  or_there false k x first there = sym (or_none first)

  -- k put in behind x
  or_later : (test : Bool) (x : K) (all first last : Option K) → all ≡ option_or first last
      → cond test (Some x) all ≡ option_or (cond test (Some x) first) last
  or_later true x all first last later = refl
  or_later false x all first last later = later

  -- x left out where k stands before it and is alike
  one_test : (test : Bool) (k x : K) (later : Option K)
      → cond test (Some k) later ≡ cond test (Some k) (cond test (Some x) later)
  one_test true k x later = refl
  one_test false k x later = refl

module _ {K : Type 0} {cmp : K → K → Ordering} (total : IsTotalOrder cmp) where
  -- the first of xs that compares alike with q
  abbrev first_alike : K → List K → Option K
  first_alike q xs = find (eq_by_cmp cmp q) xs

  -- it is the same for what compares alike
  first_alike_same : (q k : K) (xs : List K) → cmp q k ≡ Equal → first_alike q xs ≡ first_alike k xs
  first_alike_same q k xs equal = λ i. find (λ z. is_eq (total.congr q k z equal i)) xs

  -- there is none where all are above q
  first_alike_none : (q : K) (xs : List K) → AllByRecursion (λ z. cmp q z ≡ Less) xs → first_alike q xs ≡ None
  first_alike_none q [] all = refl
  first_alike_none q (z ∷ zs) all =
      ap (λ o. cond (is_eq o) (Some z) (first_alike q zs)) all.0 ∙ first_alike_none q zs all.1

  -- it is the first element where that compares alike
  first_alike_first : (q x : K) (xs : List K) → cmp q x ≡ Equal → first_alike q (x ∷ xs) ≡ Some x
  first_alike_first q x xs equal = ap (λ o. cond (is_eq o) (Some x) (first_alike q xs)) equal

  -- ---- a set is settled by the first that compares alike with each q

  -- behind the same first element the others are settled so
  same_tails : (x : K) (xs ys : List K) → AllByRecursion (λ z. cmp x z ≡ Less) xs
      → AllByRecursion (λ z. cmp x z ≡ Less) ys
      → ((q : K) → first_alike q (x ∷ xs) ≡ first_alike q (x ∷ ys)) → (q : K) → first_alike q xs ≡ first_alike q ys
  same_tails x xs ys above_xs above_ys same q = by_answer (cmp q x) refl
    where
      behind : (o : Ordering) → cmp q x ≡ o → is_eq o ≡ false → (zs : List K)
          → first_alike q (x ∷ zs) ≡ first_alike q zs
      behind o is unlike zs = ap (λ b. cond b (Some x) (first_alike q zs)) (ap is_eq is ∙ unlike)

      by_answer : (o : Ordering) → cmp q x ≡ o → first_alike q xs ≡ first_alike q ys
      by_answer Less is = sym (behind Less is refl xs) ∙ same q ∙ behind Less is refl ys
      by_answer Equal is =
          first_alike_same q x xs is ∙ first_alike_none x xs above_xs
          ∙ sym (first_alike_same q x ys is ∙ first_alike_none x ys above_ys)
      by_answer Greater is = sym (behind Greater is refl xs) ∙ same q ∙ behind Greater is refl ys

  -- the first elements are the same
  same_heads : (x y : K) (xs ys : List K) → IsSet cmp (x ∷ xs) → IsSet cmp (y ∷ ys)
      → ((q : K) → first_alike q (x ∷ xs) ≡ first_alike q (y ∷ ys)) → x ≡ y
  unfolding IsStrictlySortedBy
  same_heads x y xs ys s t same = by_answer (cmp x y) refl
    where
      found : Some x ≡ first_alike x (y ∷ ys)
      found = sym (first_alike_first x x xs (tied_itself total x)) ∙ same x

      found_back : first_alike y (x ∷ xs) ≡ Some y
      found_back = same y ∙ first_alike_first y y ys (tied_itself total y)

      by_answer : (o : Ordering) → cmp x y ≡ o → x ≡ y
      by_answer Less less =
          let none : Some x ≡ None = found ∙ first_alike_none x (y ∷ ys) (less, below_all total x y ys less t.0) in cc
      by_answer Equal equal =
          let one : Some x ≡ Some y = found ∙ first_alike_first x y ys equal in cc
      by_answer Greater greater =
          let less : cmp y x ≡ Less = total.antisymm y x ∙ ap ordering_reverse greater in
          let above = below_all total y x xs less s.0 in
          let none : None ≡ Some y = sym (first_alike_none y (x ∷ xs) (less, above)) ∙ found_back in cc

  -- so the sets are
  same_firsts : (xs ys : List K) → IsSet cmp xs → IsSet cmp ys → ((q : K) → first_alike q xs ≡ first_alike q ys)
      → xs ≡ ys
  unfolding IsStrictlySortedBy
  same_firsts [] [] s t same = refl
  same_firsts [] (y ∷ ys) s t same =
      let none : None ≡ Some y = same y ∙ first_alike_first y y ys (tied_itself total y) in cc
  same_firsts (x ∷ xs) [] s t same =
      let none : None ≡ Some x = sym (same x) ∙ first_alike_first x x xs (tied_itself total x) in cc
  same_firsts (x ∷ xs) (y ∷ ys) s t same =
      let head : x ≡ y = same_heads x y xs ys s t same in
      let above_ys = subst (λ (w : K). AllByRecursion (λ z. cmp w z ≡ Less) ys) (sym head) t.0 in
      let same_again = λ (q : K). same q ∙ ap (λ (w : K). first_alike q (w ∷ ys)) (sym head) in
      let tail : xs ≡ ys = same_firsts xs ys s.1 t.1 (same_tails x xs ys s.0 above_ys same_again) in
      λ i. head i ∷ tail i

  -- ---- which is the first after each word

  -- an element put in is the first where there was none
  first_insert : (q k : K) (xs : List K) → IsSet cmp xs
      → first_alike q (insert_key cmp xs k) ≡ option_or (first_alike q xs) (cond (eq_by_cmp cmp q k) (Some k) None)
  unfolding IsStrictlySortedBy
  first_insert q k [] s = refl
  first_insert q k (x ∷ xs) s =
      let inserted = cond (eq_by_cmp cmp q k) (Some k) None in
      by_order (λ zs. first_alike q zs ≡ option_or (first_alike q (x ∷ xs)) inserted) (cmp k x) _ _ _
      (λ less. or_front (eq_by_cmp cmp q k) k _ (λ alike.
      first_alike_same q k (x ∷ xs) (is_equal (cmp q k) alike)
      ∙ first_alike_none k (x ∷ xs) (less, below_all total k x xs less s.0)))
      (λ equal. or_there (eq_by_cmp cmp q k) k x _ (λ alike.
      first_alike_first q x xs (total.congr q k x (is_equal (cmp q k) alike) ∙ equal)))
      (λ _. or_later (eq_by_cmp cmp q x) x _ _ _ (first_insert q k xs s.1))

  -- of a list put in, the first is where there was none
  first_with_all : (q : K) (xs ys : List K) → IsSet cmp xs
      → first_alike q (with_all cmp xs ys) ≡ option_or (first_alike q xs) (first_alike q ys)
  first_with_all q xs [] s = sym (or_none (first_alike q xs))
  first_with_all q xs (y ∷ ys) s =
      first_with_all q (insert_key cmp xs y) ys (IsSet-insert_key total xs y s)
      ∙ ap (λ (o : Option K). option_or o (first_alike q ys)) (first_insert q y xs s)
      ∙ or_step (first_alike q xs) (eq_by_cmp cmp q y) y (first_alike q ys)

  -- a list put in order keeps the first
  first_ordered : (q : K) (xs : List K) → first_alike q (ordered cmp xs) ≡ first_alike q xs
  first_ordered q xs = first_with_all q [] xs (IsSet-ordered total [])

  -- a stable sort keeps the first
  first_stable : (q : K) (xs ys : List K) → IsStable cmp xs ys → first_alike q ys ≡ first_alike q xs
  first_stable q xs ys stable =
      sym (find_filter (eq_by_cmp cmp q) ys) ∙ ap (find (eq_by_cmp cmp q)) same ∙ find_filter (eq_by_cmp cmp q) xs
    where
      tie : (o : Ordering) → (not (is_lt o) && not (is_lt (ordering_reverse o))) ≡ is_eq o
      tie Less = refl
      tie Equal = refl
      tie Greater = refl

      ties_alike : (x : K) → ties (λ a b. is_lt (cmp a b)) q x ≡ eq_by_cmp cmp q x
      ties_alike x = ap (λ o. not (is_lt (cmp q x)) && not (is_lt o)) (total.antisymm x q) ∙ tie (cmp q x)

      same : filter (eq_by_cmp cmp q) ys ≡ filter (eq_by_cmp cmp q) xs
      same = subst (λ (test : K → Bool). filter test ys ≡ filter test xs) (λ i x. ties_alike x i) (stable q)

  module _ {E : K → K → Bool} (decides : (x y : K) → E x y ≡ eq_by_cmp cmp x y) where
    -- `dedup` keeps the first, k before xs
    first_dedup_from : (q k : K) (xs : List K) → first_alike q (dedup_from E k xs) ≡ first_alike q (k ∷ xs)
    first_dedup_from q k [] = refl
    first_dedup_from q k (x ∷ xs) =
        by_test (λ zs. first_alike q zs ≡ first_alike q (k ∷ x ∷ xs)) (E x k) _ _
        (λ alike. first_dedup_from q k xs ∙ one_test (eq_by_cmp cmp q k) k x (first_alike q xs)
        ∙ ap (λ o. cond (eq_by_cmp cmp q k) (Some k) (cond (is_eq o) (Some x) (first_alike q xs)))
        (sym (alike_right total x k q (is_equal (cmp x k) (sym (decides x k) ∙ alike)))))
        (λ _. ap (λ (o : Option K). cond (eq_by_cmp cmp q k) (Some k) o) (first_dedup_from q x xs))

    -- `dedup` keeps the first
    first_dedup : (q : K) (xs : List K) → first_alike q (dedup E xs) ≡ first_alike q xs
    first_dedup q [] = refl
    first_dedup q (x ∷ xs) = first_dedup_from q x xs

    -- a list that is sorted, each element once, is the list in order
    pub dedup_is_ordered : (xs ys : List K) → IsStable cmp xs ys → IsSorted cmp ys → dedup E ys ≡ ordered cmp xs
    dedup_is_ordered xs ys stable sorted =
        same_firsts (dedup E ys) (ordered cmp xs)
        (IsStrictlySortedBy-dedup total decides ys sorted) (IsSet-ordered total xs)
        (λ q. first_dedup q ys ∙ first_stable q xs ys stable ∙ sym (first_ordered q xs))
