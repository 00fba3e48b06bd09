-- The marks of a history: what one more state makes of them, and where an instance is found.
use Rattle.std.proofs.Common.{◌≡◌, ◌∙◌, ℕ, zero, suc, ◌+◌, ◌<◌, ◌≤◌, Bool, true, false, if◌then◌else◌, ◌&&◌, ◌||◌}
use Rattle.std.proofs.Common.{List, [], ◌∷◌, ◌++◌, map, reverse, length, get_or, slice_get, Some, refl, ap, sym}
use Rattle.std.proofs.Common.{subst, add-one, arith}
use Rattle.std.specs.List.{HoldsAt}
use Rattle.std.specs.Ordering.{eq_by_cmp}
use Rattle.std.specs.declared.cmp.Ordering.TheVariants.{Equal}
use Rattle.std.specs.declared.option.Option.{Option}
use Rattle.std.proofs.lemmas.List.{reverse-append}
use Rattle.std.proofs.lemmas.Option.{slice_get-get_or}
use Rattle.rif_values.proofs.CallerLemmas.{total_instances, exact_instances}
use Rattle.rif_sets.proofs.CallerLemmas.{equal_itself}
use Rattle.rif_values.specs.declared.instance.Instance.{Instance}
use Rattle.rif_values.specs.InstanceOrder.{instance_cmp}
use Rattle.rif_values.specs.Sets.{has, IsSet}
use Rattle.prd_relation.specs.declared.mark.Mark.{Mark}
use Rattle.prd_relation.specs.declared.moment.Moment.{Moment}
use Rattle.prd_relation.specs.History.{newest_conflict_set, has_instance, is_pick, age_of, is_refracted}
use Rattle.prd_relation.specs.Layout.{mark_of, next_mark}

-- ---- where an instance is found

-- what compares alike with an instance is it
pub found_at : (xs : List Instance) (n : ℕ) (i : Instance) → n < length xs
    → HoldsAt (λ x. instance_cmp x i ≡ Equal) xs n → slice_get xs n ≡ Some i
found_at xs n i within alike =
    slice_get-get_or xs n i within ∙ ap Some (exact_instances (get_or xs n i) i (alike i))

has_at : (xs : List Instance) (n : ℕ) (i : Instance) → slice_get xs n ≡ Some i → has instance_cmp xs i ≡ true
has_at [] n i at = absurd (cc at)
has_at (x ∷ xs) zero i at =
    let same : x ≡ i = cc at in
    ap (λ (y : Instance). eq_by_cmp instance_cmp i y || has instance_cmp xs i) same
    ∙ ap (λ b. b || has instance_cmp xs i) (equal_itself total_instances exact_instances i)
has_at (x ∷ xs) (suc n) i at = let later = has_at xs n i at in grind (arith, later)

mapped_at : {X Y : Type 0} (f : X → Y) (xs : List X) (n : ℕ) (x : X) (d : Y) → slice_get xs n ≡ Some x
    → get_or (map f xs) n d ≡ f x
mapped_at f [] n x d at = absurd (cc at)
mapped_at f (y ∷ xs) zero x d at = let same : y ≡ x = cc at in ap f same
mapped_at f (y ∷ xs) (suc n) x d at = mapped_at f xs n x d at

-- ---- one more state

-- an age counts states of the history
pub age_within : (ms : List Moment) (i : Instance) → age_of ms i ≤ length ms
age_within [] i = omega arith
age_within (m ∷ ms) i = let earlier = age_within ms i in by_there (has_instance m i) (age_of ms i) (length ms) earlier
  where
    by_there : (b : Bool) (n k : ℕ) → n ≤ k → (if b then suc n else 0) ≤ suc k
    by_there true n k up = omega arith
    by_there false n k up = omega arith

module _ (pick : Option Instance) (ms : List Moment) (i : Instance) (place : ℕ) (d : Mark)
    (at : slice_get (newest_conflict_set ms) place ≡ Some i) (marks : List Mark)
    (are : marks ≡ map (mark_of ms) (newest_conflict_set ms)) where
  -- the mark at the place of an instance is its mark
  pub mark_there : get_or marks place d ≡ mark_of ms i
  mark_there = ap (λ (xs : List Mark). get_or xs place d) are
      ∙ mapped_at (mark_of ms) (newest_conflict_set ms) place i d at

  next_there : (fired : Bool) → fired ≡ (is_refracted ms i || is_pick pick i)
      → ◌≡◌ {A = Mark} (record { age = (get_or marks place d).age + 1; refracted = fired }) (next_mark pick ms i)
  next_there fired is =
      let there = has_at (newest_conflict_set ms) place i at in
      let older = add-one (get_or marks place d).age ∙ ap (λ (m : Mark). suc m.age) mark_there in
      let spent : fired ≡ ((has instance_cmp (newest_conflict_set ms) i && is_pick pick i) || is_refracted ms i) =
      grind (arith, there, is) in
      λ k. record { age = older k; refracted = spent k }

  -- a refracted instance stays so
  pub next_refracted : (get_or marks place d).refracted ≡ true
      → ◌≡◌ {A = Mark} (record { age = (get_or marks place d).age + 1; refracted = (get_or marks place d).refracted })
      (next_mark pick ms i)
  next_refracted before =
      let was = ap (λ (m : Mark). m.refracted) mark_there in
      next_there (get_or marks place d).refracted (grind (arith, before, was))

  -- another one is refracted where it has fired
  pub next_fired : (fired : Bool) → (get_or marks place d).refracted ≡ false → fired ≡ is_pick pick i
      → ◌≡◌ {A = Mark} (record { age = (get_or marks place d).age + 1; refracted = fired }) (next_mark pick ms i)
  next_fired fired before is =
      let was = ap (λ (m : Mark). m.refracted) mark_there in
      next_there fired (grind (arith, before, was, is))

-- what is said of an instance of the new conflict set
next_is : (pick : Option Instance) (ms : List Moment) (m : Moment) (i : Instance) → m.pick ≡ pick
    → has_instance m i ≡ true
    → next_mark pick ms i ≡ mark_of (m ∷ ms) i
next_is pick ms m i same there =
    let spent = λ (p : Option Instance). (has instance_cmp (newest_conflict_set ms) i && is_pick p i) || is_refracted
    ms i in
    let older = ap (λ (b : Bool). if b then suc (age_of ms i) else 0) (sym there) in
    let refracted = ap spent (sym same) ∙ ap (λ (b : Bool). b && spent m.pick) (sym there) in
    λ k. record { age = older k; refracted = refracted k }

next_all : (pick : Option Instance) (ms : List Moment) (m : Moment) (xs : List Instance) → m.pick ≡ pick
    → ((i : Instance) → has instance_cmp xs i ≡ true → has_instance m i ≡ true)
    → map (next_mark pick ms) xs ≡ map (mark_of (m ∷ ms)) xs
next_all pick ms m [] same inside = refl
next_all pick ms m (x ∷ xs) same inside =
    let here = next_is pick ms m x same
    (inside x (ap (λ b. b || has instance_cmp xs x) (equal_itself total_instances exact_instances x))) in
    let later = next_all pick ms m xs same (λ i there. inside i (grind (arith, there))) in
    λ k. here k ∷ later k

-- the marks after one more state
pub marks_pushed : (old new : List Moment) (m : Moment) (marks : List Mark) → IsSet instance_cmp m.conflict_set
    → new ≡ old ++ m ∷ []
    → marks ≡ map (next_mark m.pick (reverse old)) m.conflict_set
    → (0 < length new) × (marks ≡ map (mark_of (reverse new)) (newest_conflict_set (reverse new)))
    × IsSet instance_cmp (newest_conflict_set (reverse new))
marks_pushed old new m marks in_order pushed are =
    let turned : reverse new ≡ m ∷ reverse old = ap reverse pushed ∙ reverse-append old (m ∷ []) in (
      subst (λ (ms : List Moment). 0 < length ms) (sym pushed) (some old),
      are ∙ next_all m.pick (reverse old) m m.conflict_set refl (λ i there. there)
          ∙ ap (λ (ms : List Moment). map (mark_of ms) (newest_conflict_set ms)) (sym turned),
      subst (λ (ms : List Moment). IsSet instance_cmp (newest_conflict_set ms)) (sym turned) in_order,
    )
  where
    some : (xs : List Moment) → 0 < length (xs ++ m ∷ [])
    some [] = omega arith
    some (x ∷ xs) = omega arith
