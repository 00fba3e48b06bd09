-- Of some elements in a row, the first of those than which none is better: how it is found in one pass, and that two
-- filters, by one test and then by another, leave it first.
use Rattle.std.proofs.Common.{◌≡◌, ◌∙◌, Bool, true, false, cond, not, ◌||◌, List, [], ◌∷◌, ◌++◌, filter, slice_get, Some}
use Rattle.std.proofs.Common.{refl, ap, sym, subst, append_assoc, true≢false}
use Rattle.std.proofs.lemmas.Bool.{not-true, or_parts, or_left, or_right}
use Rattle.std.proofs.lemmas.Cmp.{upto, tied_itself}
use Rattle.std.proofs.lemmas.List.Elements.{All-nil, All-push, All-weaker, All-filter, filter_passes, filter-append}
use Rattle.std.proofs.lemmas.List.Elements.{recursion_from_All}
use Rattle.std.proofs.lemmas.List.Folds.{list_any-append, list_any_none}
use Rattle.std.specs.Cmp.{IsTotalOrder}
use Rattle.std.specs.List.{All, AllByRecursion, list_any}
use Rattle.std.specs.Ordering.{is_gt, ordering_reverse}
use Rattle.std.specs.declared.cmp.Ordering.{Ordering}
use Rattle.std.specs.declared.cmp.Ordering.TheVariants.{Less, Equal, Greater}
use Rattle.prd_relation.specs.Choice.{best_by}
use Rattle.prd_relation.specs.Layout.{IsFirstBest}

-- ---- one more element

module _ {X : Type 0} (cmp : X → X → Ordering) (total : IsTotalOrder cmp) where
  abbrev better : X → X → Bool
  better x y = is_gt (cmp x y)

  -- what is above x is above each that isn't
  above : (x y z : X) → better y x ≡ true → better z x ≡ false → (b : Bool) → better y z ≡ b → better y z ≡ true
  above x y z is not_above true same = same
  above x y z is not_above false same = absurd (true≢false (sym is ∙ upto total y z x same not_above))

  one_way : (y z : X) (o : Ordering) → cmp y z ≡ o → is_gt o ≡ true → better z y ≡ false
  one_way y z Less same is = absurd (cc is)
  one_way y z Equal same is = absurd (cc is)
  one_way y z Greater same is = ap is_gt (total.antisymm z y ∙ ap ordering_reverse same)

  pub only_best : (y : X) → IsFirstBest better (y ∷ []) y
  only_best y = record {
    before = [];
    after = [];
    all = refl;
    first = All-nil (λ z. better y z ≡ true);
    best = All-push (λ z. better z y ≡ false) [] y (All-nil (λ z. better z y ≡ false)) (ap is_gt (tied_itself total y));
  }

  pub next_best : (xs : List X) (x y : X) → IsFirstBest better xs x → better y x ≡ true
      → IsFirstBest better (xs ++ y ∷ []) y
  next_best xs x y so_far is =
      let ahead = λ (z : X) (no : better z x ≡ false). above x y z is no (better y z) refl in record {
        before = xs;
        after = [];
        all = refl;
        first = All-weaker (λ z. better z x ≡ false) (λ z. better y z ≡ true) ahead xs so_far.best;
        best = All-push (λ z. better z y ≡ false) xs y
            (All-weaker (λ z. better z x ≡ false) (λ z. better z y ≡ false)
            (λ z no. one_way y z (cmp y z) refl (ahead z no)) xs so_far.best)
            (ap is_gt (tied_itself total y));
      }

  pub still_best : (xs : List X) (x y : X) → IsFirstBest better xs x → better y x ≡ false
      → IsFirstBest better (xs ++ y ∷ []) x
  still_best xs x y so_far not_better = record {
    before = so_far.before;
    after = so_far.after ++ y ∷ [];
    all = ap (λ (zs : List X). zs ++ y ∷ []) so_far.all ∙ append_assoc so_far.before (x ∷ so_far.after) (y ∷ []);
    first = so_far.first;
    best = All-push (λ z. better z x ≡ false) xs y so_far.best not_better;
  }

-- ---- by two tests, one after the other

module _ {X : Type 0} where
  any_there : (t : X → Bool) (before after : List X) (x : X) → t x ≡ true → list_any t (before ++ x ∷ after) ≡ true
  any_there t before after x is =
      list_any-append t before (x ∷ after)
      ∙ or_right (list_any t before) (list_any t (x ∷ after)) (or_left (t x) (list_any t after) is)

  none_there : (t : X → Bool) (before after : List X) (x : X) → list_any t (before ++ x ∷ after) ≡ false
      → t x ≡ false
  none_there t before after x none =
      let rest = or_parts (list_any t before) (list_any t (x ∷ after))
      (sym (list_any-append t before (x ∷ after)) ∙ none) in
      (or_parts (t x) (list_any t after) rest.1).0

  -- what two filters leave first
  first_left : (p q : X → Bool) (before after : List X) (x : X) → p x ≡ true → q x ≡ true
      → AllByRecursion (λ y. p y ≡ true → q y ≡ false) before
      → slice_get (filter q (filter p (before ++ x ∷ after))) 0 ≡ Some x
  first_left p q [] after x first second all =
      ap (λ b. slice_get (filter q (cond b (x ∷ filter p after) (filter p after))) 0) first
      ∙ ap (λ b. slice_get (cond b (x ∷ filter q (filter p after)) (filter q (filter p after))) 0) second
  first_left p q (y ∷ before) after x first second all =
      by_test (filter p (before ++ x ∷ after)) (p y) refl (first_left p q before after x first second all.1)
    where
      by_test : (rest : List X) (b : Bool) → p y ≡ b → slice_get (filter q rest) 0 ≡ Some x
          → slice_get (filter q (cond b (y ∷ rest) rest)) 0 ≡ Some x
      by_test rest true is later = ap (λ c. slice_get (cond c (y ∷ filter q rest) (filter q rest)) 0) (all.0 is) ∙ later
      by_test rest false is later = later

module _ {X : Type 0} (better lower older : X → X → Bool) (x : X)
    (as_high : (y : X) → better y x ≡ false → lower x y ≡ false)
    (as_young : (y : X) → better y x ≡ false → lower y x ≡ false → older x y ≡ false)
    (by_age : (y : X) → better x y ≡ true → lower y x ≡ false → older y x ≡ true) where
  left_first : (before after : List X) → All (λ y. better x y ≡ true) before
      → All (λ y. better y x ≡ false) (before ++ x ∷ after)
      → slice_get (best_by older (best_by lower (before ++ x ∷ after))) 0 ≡ Some x
  left_first before after first best =
      let xs = before ++ x ∷ after in
      let p = λ (y : X). not (list_any (lower y) xs) in
      let q = λ (y : X). not (list_any (older y) (filter p xs)) in
      let high : p x ≡ true =
      ap not (list_any_none (lower x) xs (All-weaker (λ y. better y x ≡ false) (λ y. lower x y ≡ false) as_high xs best))
      in
      let as_high_as = λ (y : X) (is : p y ≡ true).
      none_there (lower y) before after x (not-true (list_any (lower y) xs) is) in
      let highest = All-filter p (λ y. better y x ≡ false) xs best in
      let young = ap not (list_any_none (older x) (filter p xs)
      (λ k d within. as_young _ (highest k d within) (as_high_as _ (filter_passes p xs k d within)))) in
      let there : filter p xs ≡ filter p before ++ x ∷ filter p after =
      filter-append p before (x ∷ after)
      ∙ ap (λ b. filter p before ++ cond b (x ∷ filter p after) (filter p after)) high in
      let passed = λ (y : X) (is : better x y ≡ true) (passes : p y ≡ true).
      ap (λ (ys : List X). not (list_any (older y) ys)) there
      ∙ ap not (any_there (older y) (filter p before) (filter p after) x (by_age y is (as_high_as y passes))) in
      first_left p q before after x high young
      (recursion_from_All (λ y. p y ≡ true → q y ≡ false) before
      (All-weaker (λ y. better x y ≡ true) (λ y. p y ≡ true → q y ≡ false) passed before first))

  pub first_is_left : (xs : List X) → IsFirstBest better xs x → slice_get (best_by older (best_by lower xs)) 0 ≡ Some x
  first_is_left xs is =
      ap (λ (ys : List X). slice_get (best_by older (best_by lower ys)) 0) is.all
      ∙ left_first is.before is.after is.first (subst (All (λ y. better y x ≡ false)) is.all is.best)
