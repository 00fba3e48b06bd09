-- Which instances are allowed.
use Rattle.std.proofs.Common.{◌≡◌, ◌∙◌, ℤ, Bool, true, false, not, ◌&&◌, ◌||◌, List, [], ◌∷◌, filter, refl, ap, sym}
use Rattle.std.proofs.Common.{true≢false}
use Rattle.std.specs.Cmp.{int_cmp_total}
use Rattle.std.specs.List.{list_any}
use Rattle.std.specs.declared.cmp.Ordering.{Ordering}
use Rattle.std.specs.declared.cmp.Ordering.TheVariants.{Less, Equal, Greater}
use Rattle.std.specs.Ordering.{eq_by_cmp, int_cmp, is_lt, ordering_reverse}
use Rattle.rif_values.proofs.CallerLemmas.{total_instances, exact_instances}
use Rattle.rif_sets.proofs.CallerLemmas.{has_filter, equal_itself}
use Rattle.rif_values.specs.declared.instance.Instance.{Instance}
use Rattle.rif_values.specs.InstanceOrder.{instance_cmp}
use Rattle.rif_values.specs.Sets.{has}
use Rattle.prd_relation.specs.declared.moment.Moment.{Moment}
use Rattle.prd_relation.specs.Choice.{is_lower, is_older, highest_instances, unrefracted_instances}
use Rattle.prd_relation.specs.Choice.{allowed_instances}
use Rattle.prd_relation.specs.History.{newest_conflict_set, is_refracted}
use Rattle.prd_relation.specs.Laws.{AllowsTheBest, IsAllowed, IsUnrefracted}
use Rattle.prd_relation.specs.RuleSystem.{RuleSystem}
use Rattle.prd_relation.proofs.ChosenLemmas.{kept, negated, none_passes}

-- what was there and passes is left by a filter
left_by : (p : Instance → Bool) (xs : List Instance) (i : Instance) → p i ≡ true → has instance_cmp xs i ≡ true
    → has instance_cmp (filter p xs) i ≡ true
left_by p xs i passes there =
    has_filter total_instances exact_instances p xs i ∙ ap (λ b. b && has instance_cmp xs i) passes ∙ there

behind : (a b : Bool) → b ≡ true → (a || b) ≡ true
behind true b is = refl
behind false b is = is

neither_of : (a b : Bool) → a ≡ false → b ≡ false → (a || b) ≡ false
neither_of true b first second = absurd (cc first)
neither_of false b first second = second

-- a test that each element fails
all_fail : (p : Instance → Bool) (xs : List Instance)
    → ((j : Instance) → has instance_cmp xs j ≡ true → p j ≡ false) → list_any p xs ≡ false
all_fail p [] fail = refl
all_fail p (x ∷ xs) fail =
    neither_of (p x) (list_any p xs)
    (fail x (ap (λ b. b || has instance_cmp xs x) (equal_itself total_instances exact_instances x)))
    (all_fail p xs (λ j there. fail j (behind (eq_by_cmp instance_cmp j x) (has instance_cmp xs j) there)))

abbrev eager : List Moment → List Instance
eager ms = unrefracted_instances ms (newest_conflict_set ms)

is_eager : (ms : List Moment) (i : Instance) → has instance_cmp (eager ms) i ≡ true → IsUnrefracted ms i
is_eager ms i there =
    let free = kept (λ x. not (is_refracted ms x)) (newest_conflict_set ms) i there in
    (free.1, negated (is_refracted ms i) free.0)

eager_there : (ms : List Moment) (i : Instance) → IsUnrefracted ms i → has instance_cmp (eager ms) i ≡ true
eager_there ms i is = left_by (λ x. not (is_refracted ms x)) (newest_conflict_set ms) i (ap not is.1) is.0

-- what isn't below a, and a isn't above b: it isn't below b
not_above : (a b c : ℤ) → is_lt (int_cmp a c) ≡ false → is_lt (int_cmp b a) ≡ false → is_lt (int_cmp b c) ≡ false
not_above a b c first second = by_order (int_cmp b c) refl (int_cmp b a) refl
  where
    by_order : (o : Ordering) → int_cmp b c ≡ o → (p : Ordering) → int_cmp b a ≡ p → is_lt (int_cmp b c) ≡ false
    by_order Less is Less below = absurd (true≢false (sym (ap is_lt below) ∙ second))
    by_order Less is Equal below =
        absurd (true≢false (sym (ap is_lt (sym (int_cmp_total.congr b a c below) ∙ is)) ∙ first))
    by_order Less is Greater below =
        let under : int_cmp a b ≡ Less = int_cmp_total.antisymm a b ∙ ap ordering_reverse below in
        absurd (true≢false (sym (ap is_lt (int_cmp_total.trans a b c under is)) ∙ first))
    by_order Equal is p below = ap is_lt is
    by_order Greater is p below = ap is_lt is

-- of the eager ones, those than which none is of higher priority
high_there : (system : RuleSystem) (ms : List Moment) (i : Instance) → IsUnrefracted ms i
    → ((j : Instance) → IsUnrefracted ms j → is_lower system i j ≡ false)
    → has instance_cmp (highest_instances system (eager ms)) i ≡ true
high_there system ms i is highest =
    left_by (λ x. not (list_any (is_lower system x) (eager ms))) (eager ms) i
    (ap not (all_fail (is_lower system i) (eager ms) (λ j there. highest j (is_eager ms j there))))
    (eager_there ms i is)

allowed_says : (system : RuleSystem) (ms : List Moment) (i : Instance)
    → has instance_cmp (allowed_instances system ms) i ≡ true → IsAllowed system ms i
allowed_says system ms i there =
    let highest = highest_instances system (eager ms) in
    let young = kept (λ x. not (list_any (is_older ms x) highest)) highest i there in
    let high = kept (λ x. not (list_any (is_lower system x) (eager ms))) (eager ms) i young.1 in
    let none_higher : (j : Instance) → IsUnrefracted ms j → is_lower system i j ≡ false =
    λ j is. none_passes (is_lower system i) (eager ms) j (negated (list_any (is_lower system i) (eager ms)) high.0)
    (eager_there ms j is) in
    record {
      unrefracted = is_eager ms i high.1;
      highest = none_higher;
      youngest = λ j is no_lower.
          none_passes (is_older ms i) highest j (negated (list_any (is_older ms i) highest) young.0)
          (high_there system ms j is (λ k other. not_above (system.priority i.rule) (system.priority j.rule)
          (system.priority k.rule) (none_higher k other) no_lower));
    }

allowed_said : (system : RuleSystem) (ms : List Moment) (i : Instance) → IsAllowed system ms i
    → has instance_cmp (allowed_instances system ms) i ≡ true
allowed_said system ms i is =
    let highest = highest_instances system (eager ms) in
    left_by (λ x. not (list_any (is_older ms x) highest)) highest i
    (ap not (all_fail (is_older ms i) highest (λ j there.
    let high = kept (λ x. not (list_any (is_lower system x) (eager ms))) (eager ms) j there in
    is.youngest j (is_eager ms j high.1)
    (none_passes (is_lower system j) (eager ms) i (negated (list_any (is_lower system j) (eager ms)) high.0)
    (eager_there ms i is.unrefracted)))))
    (high_there system ms i is.unrefracted is.highest)

pub allowed_are : AllowsTheBest
allowed_are system ms i = (allowed_says system ms i, allowed_said system ms i)
