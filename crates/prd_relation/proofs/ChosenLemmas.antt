-- What is chosen, and when nothing is.
use Rattle.std.proofs.Common.{◌≡◌, ◌≢◌, ◌∙◌, ℕ, Bool, true, false, cond, not, ◌&&◌, ◌||◌, List, [], ◌∷◌}
use Rattle.std.proofs.Common.{filter, slice_get}
use Rattle.std.proofs.Common.{Some, None, refl, ap, sym, arith}
use Rattle.std.proofs.Common.{ℤ, nat_lt, subst, true≢false}
use Rattle.std.proofs.lemmas.Grind.{common_steps}
use Rattle.std.specs.Cmp.{int_cmp_total, int_cmp_is}
use Rattle.std.specs.List.{AllByRecursion, list_any}
use Rattle.std.specs.declared.cmp.Ordering.{Ordering}
use Rattle.std.specs.declared.cmp.Ordering.TheVariants.{Less, Equal, Greater}
use Rattle.std.specs.Ordering.{eq_by_cmp, int_cmp, is_gt, is_lt}
use Rattle.rif_values.proofs.CallerLemmas.{total_instances, exact_instances}
use Rattle.rif_sets.proofs.CallerLemmas.{has_filter, equal_is, equal_itself, first_is_least, set_empty, set_filter}
use Rattle.rif_values.specs.declared.instance.Instance.{Instance}
use Rattle.rif_values.specs.InstanceOrder.{instance_cmp}
use Rattle.rif_values.specs.Sets.{has, IsSet}
use Rattle.prd_relation.specs.Choice.{best_by, is_lower, is_older, highest_instances, youngest_instances}
use Rattle.prd_relation.specs.Choice.{unrefracted_instances, allowed_instances}
use Rattle.prd_relation.specs.History.{Snapshot, moments_of, newest_conflict_set, age_of, is_refracted}
use Rattle.prd_relation.specs.Laws.{ChoosesBest, ChoosesLeast, ChoosesUnrefracted, ChoosesWhereItCan}
use Rattle.prd_relation.specs.RuleSystem.{RuleSystem}

has_first : (xs : List Instance) (i : Instance) → slice_get xs 0 ≡ Some i → has instance_cmp xs i ≡ true
has_first [] i at = absurd (cc at)
has_first (x ∷ xs) i at =
    let same : x ≡ i = cc at in
    ap (λ (y : Instance). eq_by_cmp instance_cmp i y || has instance_cmp xs i) same
    ∙ ap (λ b. b || has instance_cmp xs i) (equal_itself total_instances exact_instances i)

parts_of : (a b : Bool) → (a && b) ≡ true → (a ≡ true) × (b ≡ true)
parts_of true true h = (refl, refl)
parts_of true false h = absurd (cc h)
parts_of false b h = absurd (cc h)

-- what a filter leaves was there and passes
pub kept : (p : Instance → Bool) (xs : List Instance) (i : Instance) → has instance_cmp (filter p xs) i ≡ true
    → (p i ≡ true) × (has instance_cmp xs i ≡ true)
kept p xs i there = parts_of (p i) (has instance_cmp xs i) (sym (has_filter total_instances exact_instances p xs i)
    ∙ there)

pub negated : (b : Bool) → not b ≡ true → b ≡ false
negated true h = absurd (cc h)
negated false h = refl

-- what is chosen is in the newest conflict set and isn't refracted
pub chosen_unrefracted : ChoosesUnrefracted
chosen_unrefracted system ms i chosen =
    let eager = unrefracted_instances ms (newest_conflict_set ms) in
    let highest = highest_instances system eager in
    let young = kept (λ x. not (list_any (is_older ms x) highest)) highest i
    (has_first (allowed_instances system ms) i chosen) in
    let high = kept (λ x. not (list_any (is_lower system x) eager)) eager i young.1 in
    let free = kept (λ x. not (is_refracted ms x)) (newest_conflict_set ms) i high.1 in
    (free.1, negated (is_refracted ms i) free.0)

-- ---- what is chosen is the least

newest_set : (system : RuleSystem) (history : List Snapshot)
    → IsSet instance_cmp (newest_conflict_set (moments_of system history))
newest_set system [] = set_empty total_instances exact_instances
newest_set system (snapshot ∷ history) = system.in_order snapshot.facts

allowed_set : (system : RuleSystem) (history : List Snapshot)
    → IsSet instance_cmp (allowed_instances system (moments_of system history))
allowed_set system history =
    let ms = moments_of system history in
    let eager = unrefracted_instances ms (newest_conflict_set ms) in
    let highest = highest_instances system eager in
    set_filter total_instances exact_instances (λ x. not (list_any (is_older ms x) highest)) highest
    (set_filter total_instances exact_instances (λ x. not (list_any (is_lower system x) eager)) eager
    (set_filter total_instances exact_instances (λ x. not (is_refracted ms x)) (newest_conflict_set ms)
    (newest_set system history)))

below : (x j : Instance) (o : Ordering) → instance_cmp x j ≡ o → is_gt o ≡ false → j ≢ x → o ≡ Less
below x j Less is least apart = refl
below x j Equal is least apart = absurd (apart (sym (exact_instances x j is)))
below x j Greater is least apart = absurd (cc least)

first_below : (xs : List Instance) (i j : Instance) → IsSet instance_cmp xs → slice_get xs 0 ≡ Some i
    → has instance_cmp xs j ≡ true → j ≢ i → instance_cmp i j ≡ Less
first_below [] i j set at there apart = absurd (cc at)
first_below (x ∷ xs) i j set at there apart =
    let same : x ≡ i = cc at in
    let least = first_is_least total_instances exact_instances x xs j set there in
    subst (λ (y : Instance). instance_cmp y j ≡ Less) same
    (below x j (instance_cmp x j) refl least (λ is. apart (is ∙ same)))

pub chosen_least : ChoosesLeast
chosen_least system history i chosen =
    let allowed = allowed_instances system (moments_of system history) in (
      has_first allowed i chosen,
      λ j there apart. first_below allowed i j (allowed_set system history) chosen there apart,
    )

-- ---- what is chosen is a best one

neither : (a b : Bool) → (a || b) ≡ false → (a ≡ false) × (b ≡ false)
neither true b h = absurd (cc h)
neither false b h = (refl, h)

-- a test that no element passes
pub none_passes : (p : Instance → Bool) (xs : List Instance) (j : Instance) → list_any p xs ≡ false
    → has instance_cmp xs j ≡ true → p j ≡ false
none_passes p [] j none there = absurd (cc there)
none_passes p (x ∷ xs) j none there =
    let parts = neither (p x) (list_any p xs) none in
    by_first (eq_by_cmp instance_cmp j x) refl parts.0 (λ rest. none_passes p xs j parts.1 rest)
  where
    by_first : (b : Bool) → eq_by_cmp instance_cmp j x ≡ b → p x ≡ false
        → (has instance_cmp xs j ≡ true → p j ≡ false) → p j ≡ false
    by_first true is here later = ap p (equal_is total_instances exact_instances j x is) ∙ here
    by_first false is here later = later (sym (ap (λ b. b || has instance_cmp xs j) is) ∙ there)

pub chosen_best : ChoosesBest
chosen_best system ms i j chosen =
    let eager = unrefracted_instances ms (newest_conflict_set ms) in
    let highest = highest_instances system eager in
    let young = kept (λ x. not (list_any (is_older ms x) highest)) highest i
    (has_first (allowed_instances system ms) i chosen) in
    let high = kept (λ x. not (list_any (is_lower system x) eager)) eager i young.1 in (
      none_passes (is_lower system i) eager j (negated (list_any (is_lower system i) eager) high.0),
      none_passes (is_older ms i) highest j (negated (list_any (is_older ms i) highest) young.0),
    )

-- ---- where something is left to choose from, something is chosen

all_beaten : {X : Type 0} (w : X → X → Bool) → ((a b c : X) → w a b ≡ true → w b c ≡ true → w a c ≡ true) → (m x : X)
    → w m x ≡ true
    → (ys : List X) → AllByRecursion (λ y. w m y ≡ false) ys → AllByRecursion (λ y. w x y ≡ false) ys
all_beaten w trans m x worse [] all = tt
all_beaten w trans m x worse (y ∷ ys) all = (unbeaten (w x y) refl, all_beaten w trans m x worse ys all.1)
  where
    unbeaten : (b : Bool) → w x y ≡ b → w x y ≡ false
    unbeaten true is = absurd (true≢false (sym (trans m x y worse is) ∙ all.0))
    unbeaten false is = is

best_exists : {X : Type 0} (w : X → X → Bool) → ((a b c : X) → w a b ≡ true → w b c ≡ true → w a c ≡ true)
    → ((a : X) → w a a ≡ false)
    → (P : X → Type 0) (x : X) (xs : List X) → AllByRecursion P (x ∷ xs)
    → (m : X) × P m × AllByRecursion (λ y. w m y ≡ false) (x ∷ xs)
best_exists w trans irr P x [] all = (x, all.0, (irr x, tt))
best_exists w trans irr P x (y ∷ xs) all =
    let later = best_exists w trans irr P y xs all.1 in by_first later.0 later.1 later.2 (w later.0 x) refl
  where
    by_first : (m : _) → P m → AllByRecursion (λ z. w m z ≡ false) (y ∷ xs) → (b : Bool) → w m x ≡ b
        → (n : _) × P n × AllByRecursion (λ z. w n z ≡ false) (x ∷ y ∷ xs)
    by_first m p best true is = (x, all.0, (irr x, all_beaten w trans m x is (y ∷ xs) best))
    by_first m p best false is = (m, p, (is, best))

none_worse : {X : Type 0} (p : X → Bool) (xs : List X) → AllByRecursion (λ y. p y ≡ false) xs → list_any p xs ≡ false
none_worse p [] all = refl
none_worse p (x ∷ xs) all = let later = none_worse p xs all.1 in let here = all.0 in grind (arith, later, here)

none_kept : {X : Type 0} (p : X → Bool) (xs : List X) → filter p xs ≡ [] → AllByRecursion (λ x. p x ≡ false) xs
none_kept p [] empty = tt
none_kept p (x ∷ xs) empty = by_test (p x) refl empty (λ rest. none_kept p xs rest)
  where
    by_test : (b : Bool) → p x ≡ b → cond b (x ∷ filter p xs) (filter p xs) ≡ []
        → (filter p xs ≡ [] → AllByRecursion (λ x. p x ≡ false) xs) → AllByRecursion (λ x. p x ≡ false) (x ∷ xs)
    by_test true is empty later = absurd (cc empty)
    by_test false is empty later = (is, later empty)

-- of some there are best ones
best_of_some : {X : Type 0} (w : X → X → Bool) → ((a b c : X) → w a b ≡ true → w b c ≡ true → w a c ≡ true)
    → ((a : X) → w a a ≡ false)
    → (xs : List X) → best_by w xs ≡ [] → xs ≡ []
best_of_some w trans irr [] empty = refl
best_of_some {X} w trans irr (x ∷ xs) empty =
    let p = λ (z : X). not (list_any (w z) (x ∷ xs)) in
    let best = best_exists w trans irr (λ (z : X). p z ≡ false) x xs (none_kept p (x ∷ xs) empty) in
    absurd (true≢false (sym (ap not (none_worse (w best.0) (x ∷ xs) best.2)) ∙ best.1))

first_none : {X : Type 0} (xs : List X) → slice_get xs 0 ≡ None → xs ≡ []
first_none [] none = refl
first_none (x ∷ xs) none = absurd (cc none)

is_less : (o : Ordering) → is_lt o ≡ true → o ≡ Less
is_less Less is = refl
is_less Equal is = absurd (cc is)
is_less Greater is = absurd (cc is)

lower_trans : (a b c : ℤ) → is_lt (int_cmp a b) ≡ true → is_lt (int_cmp b c) ≡ true → is_lt (int_cmp a c) ≡ true
lower_trans a b c first second =
    ap is_lt (int_cmp_total.trans a b c (is_less (int_cmp a b) first) (is_less (int_cmp b c) second))

lower_irr : (a : ℤ) → is_lt (int_cmp a a) ≡ false
lower_irr a = ap is_lt (sym (int_cmp_is a a Equal refl))

older_trans : (a b c : ℕ) → nat_lt b a ≡ true → nat_lt c b ≡ true → nat_lt c a ≡ true
older_trans a b c first second = grind (arith, common_steps, first, second)

older_irr : (a : ℕ) → nat_lt a a ≡ false
older_irr a = grind (arith, common_steps)

-- nothing is chosen exactly where each instance of the newest conflict set is refracted
pub nothing_chosen : ChoosesWhereItCan
nothing_chosen system ms =
    let eager = unrefracted_instances ms (newest_conflict_set ms) in (
      λ none.
          let lower = λ (i j k : Instance). lower_trans (system.priority i.rule) (system.priority j.rule)
          (system.priority k.rule) in
          let older = λ (i j k : Instance). older_trans (age_of ms i) (age_of ms j) (age_of ms k) in
          best_of_some (is_lower system) lower (λ i. lower_irr (system.priority i.rule)) eager
          (best_of_some (is_older ms) older (λ i. older_irr (age_of ms i)) (highest_instances system eager)
          (first_none (allowed_instances system ms) none)),
      λ empty. ap (λ (is : List Instance). slice_get (youngest_instances ms (highest_instances system is)) 0) empty,
    )
