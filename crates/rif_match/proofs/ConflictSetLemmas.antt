-- Conflict sets are in order without repeats.
use Rattle.std.proofs.Common.{◌≡◌, ◌∙◌, ℕ, suc, ◌≤◌, List, [], ◌∷◌, ◌++◌, map, refl, ap, sym, arith}
use Rattle.std.specs.Cmp.{nat_cmp_is}
use Rattle.std.specs.List.{AllByRecursion}
use Rattle.std.specs.List.Sorted.{IsStrictlySortedBy}
use Rattle.std.specs.Ordering.{ordering_then}
use Rattle.std.specs.declared.cmp.Ordering.{Ordering}
use Rattle.std.specs.declared.cmp.Ordering.TheVariants.{Less, Equal}
use Rattle.rif_values.proofs.CallerLemmas.{total_bindings, exact_bindings}
use Rattle.rif_sets.proofs.CallerLemmas.{set_ordered}
use Rattle.rif_values.specs.declared.fact.Fact.{Fact}
use Rattle.rif_values.specs.declared.instance.Instance.{Instance}
use Rattle.safe_rules.specs.declared.safe_rule.SafeRule.{SafeRule}
use Rattle.rif_values.specs.InstanceOrder.{instance_cmp}
use Rattle.rif_values.specs.Order.{binding_cmp}
use Rattle.rif_values.specs.Sets.{IsSet}
use Rattle.rif_values.specs.Bindings.{Row}
use Rattle.rif_builtins.specs.Extensions.{FactBase, base_of, through}
use Rattle.rif_match.specs.ConflictSet.{rows_of, instance_of, instances_from, conflict_set}

-- what holds of each of two lists' elements holds of each of both
all_append : {X : Type 0} (P : X → Type 0) (xs ys : List X) → AllByRecursion P xs → AllByRecursion P ys
    → AllByRecursion P (xs ++ ys)
all_append P [] ys all more = more
all_append P (x ∷ xs) ys all more = (all.0, all_append P xs ys all.1 more)

-- sets of which the one is below the other are together a set
set_append : {K : Type 0} (cmp : K → K → Ordering) (xs ys : List K) → IsSet cmp xs → IsSet cmp ys
    → AllByRecursion (λ x. AllByRecursion (λ y. cmp x y ≡ Less) ys) xs → IsSet cmp (xs ++ ys)
unfolding IsStrictlySortedBy
set_append cmp [] ys s t below = t
set_append cmp (x ∷ xs) ys s t below =
    (all_append (λ y. cmp x y ≡ Less) xs ys s.0 below.0, set_append cmp xs ys s.1 t below.1)

below_of_row : (n : ℕ) (row : Row) (rows : List Row) → AllByRecursion (λ z. binding_cmp row z ≡ Less) rows
    → AllByRecursion (λ z. instance_cmp (instance_of n row) z ≡ Less) (map (instance_of n) rows)
below_of_row n row [] below = tt
below_of_row n row (z ∷ zs) below = (
  ap (λ (o : Ordering). ordering_then o (binding_cmp row z)) (sym (nat_cmp_is n n Equal refl))
      ∙ below.0,
  below_of_row n row zs below.1,
)

-- the instances of one rule
set_of_rows : (n : ℕ) (rows : List Row) → IsSet binding_cmp rows → IsSet instance_cmp (map (instance_of n) rows)
unfolding IsStrictlySortedBy
set_of_rows n [] s = tt
set_of_rows n (row ∷ rows) s = (below_of_row n row rows s.0, set_of_rows n rows s.1)

rule_is : (n m : ℕ) (rows : List Row) → n ≤ m → AllByRecursion (λ (z : Instance). n ≤ z.rule)
    (map (instance_of m) rows)
rule_is n m [] up = tt
rule_is n m (row ∷ rows) up = (up, rule_is n m rows up)

-- the instances of rules from a number on have at least that number
from_number : (n m : ℕ) (rules : List SafeRule) (base : FactBase) → n ≤ m
    → AllByRecursion (λ (z : Instance). n ≤ z.rule) (instances_from m rules base)
from_number n m [] base up = tt
from_number n m (rule ∷ rules) base up =
    all_append (λ (z : Instance). n ≤ z.rule) (map (instance_of m) (rows_of base rule))
    (instances_from (suc m) rules base)
    (rule_is n m (rows_of base rule) up) (from_number n (suc m) rules base (omega arith))

below_later : (n : ℕ) (row : Row) (zs : List Instance) → AllByRecursion (λ (z : Instance). suc n ≤ z.rule) zs
    → AllByRecursion (λ z. instance_cmp (instance_of n row) z ≡ Less) zs
below_later n row [] later = tt
below_later n row (z ∷ zs) later = (
  ap (λ (o : Ordering). ordering_then o (binding_cmp row z.row)) (sym (nat_cmp_is n z.rule Less later.0)),
  below_later n row zs later.1,
)

rows_below_later : (n : ℕ) (rows : List Row) (zs : List Instance)
    → AllByRecursion (λ (z : Instance). suc n ≤ z.rule) zs
    → AllByRecursion (λ x. AllByRecursion (λ z. instance_cmp x z ≡ Less) zs) (map (instance_of n) rows)
rows_below_later n [] zs later = tt
rows_below_later n (row ∷ rows) zs later = (below_later n row zs later, rows_below_later n rows zs later)

set_of_rule : (base : FactBase) (rule : SafeRule) → IsSet binding_cmp (rows_of base rule)
set_of_rule base rule = set_ordered total_bindings exact_bindings (through base rule.condition ([] ∷ []))

set_from : (n : ℕ) (rules : List SafeRule) (base : FactBase) → IsSet instance_cmp (instances_from n rules base)
unfolding IsStrictlySortedBy
set_from n [] base = tt
set_from n (rule ∷ rules) base =
    set_append instance_cmp (map (instance_of n) (rows_of base rule)) (instances_from (suc n) rules base)
    (set_of_rows n (rows_of base rule) (set_of_rule base rule)) (set_from (suc n) rules base)
    (rows_below_later n (rows_of base rule) (instances_from (suc n) rules base)
    (from_number (suc n) (suc n) rules base (omega arith)))

-- a conflict set is in order without repeats
pub conflict_set_is_set : (rules : List SafeRule) (w : List Fact) → IsSet instance_cmp (conflict_set rules w)
conflict_set_is_set rules w = set_from 1 rules (base_of w)
