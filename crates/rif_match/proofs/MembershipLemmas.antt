-- Which instances a conflict set has.
use Rattle.std.proofs.Common.{◌≡◌, ◌∙◌, ℕ, zero, suc, ◌+◌, Bool, true, false, ◌||◌, List, [], ◌∷◌}
use Rattle.std.proofs.Common.{map, slice_get, Some, refl, ap, sym, ◌⊎◌, inl, inr, arith}
use Rattle.std.specs.Ordering.{eq_by_cmp, is_eq, nat_cmp, ordering_then}
use Rattle.rif_values.proofs.CallerLemmas.{total_bindings, exact_bindings, total_instances, exact_instances}
use Rattle.rif_sets.proofs.CallerLemmas.{equal_is, equal_itself, has_append}
use Rattle.rif_values.specs.declared.instance.Instance.{Instance}
use Rattle.safe_rules.specs.declared.safe_rule.SafeRule.{SafeRule}
use Rattle.rif_values.specs.InstanceOrder.{instance_cmp}
use Rattle.rif_values.specs.Order.{binding_cmp}
use Rattle.rif_values.specs.Numbers.{nth_of}
use Rattle.rif_values.specs.Sets.{has}
use Rattle.rif_values.specs.Bindings.{Row}
use Rattle.rif_builtins.specs.Extensions.{FactBase, base_of}
use Rattle.rif_match.specs.ConflictSet.{rows_of, instance_of, instances_from}
use Rattle.rif_match.specs.Laws.{HaveInstancesOfTheirRows}

either : (a b : Bool) → (a || b) ≡ true → (a ≡ true) ⊎ (b ≡ true)
either true b h = inl refl
either false b h = inr h

-- ---- of one rule

-- the instance has the rule's number, and its row is one of the rows
row_there : (n : ℕ) (rows : List Row) (i : Instance) → has instance_cmp (map (instance_of n) rows) i ≡ true
    → (i.rule ≡ n) × (has binding_cmp rows i.row ≡ true)
row_there n [] i there = absurd (cc there)
row_there n (row ∷ rows) i there =
    elim (either (eq_by_cmp instance_cmp i (instance_of n row))
    (has instance_cmp (map (instance_of n) rows) i) there) [
      | inl here ↦ (
        ap (λ (j : Instance). j.rule) (equal_is total_instances exact_instances i (instance_of n row) here),
        ap (λ (r : Row). eq_by_cmp binding_cmp r row || has binding_cmp rows r)
            (ap (λ (j : Instance). j.row) (equal_is total_instances exact_instances i (instance_of n row) here))
            ∙ ap (λ b. b || has binding_cmp rows row) (equal_itself total_bindings exact_bindings row),
      )
      | inr later ↦ let rest = row_there n rows i later in (
        rest.0,
        let there = rest.1 in grind (arith, there),
      )
    ]

row_here : (n : ℕ) (rows : List Row) (i : Instance) → i.rule ≡ n → has binding_cmp rows i.row ≡ true
    → has instance_cmp (map (instance_of n) rows) i ≡ true
row_here n [] i same there = absurd (cc there)
row_here n (row ∷ rows) i same there =
    elim (either (eq_by_cmp binding_cmp i.row row) (has binding_cmp rows i.row) there) [
      | inl here ↦
          let is = equal_is total_bindings exact_bindings i.row row here in
          let rest = has instance_cmp (map (instance_of n) rows) i in
          ap (λ (m : ℕ). is_eq (ordering_then (nat_cmp m n) (binding_cmp i.row row)) || rest) same
          ∙ ap (λ (r : Row). is_eq (ordering_then (nat_cmp n n) (binding_cmp r row)) || rest) is
          ∙ ap (λ b. b || rest) (equal_itself total_instances exact_instances (instance_of n row))
      | inr later ↦ let rest = row_here n rows i same later in grind (arith, rest)
    ]

-- ---- of rules from a number on

-- the rule that an instance is of, some places on
abbrev IsOf : ℕ → List SafeRule → FactBase → Instance → Type 0
IsOf n rules base i = (place : ℕ) × (rule : SafeRule) × (i.rule ≡ n + place) × (slice_get rules place ≡ Some rule)
    × (has binding_cmp (rows_of base rule) i.row ≡ true)

from_there : (n : ℕ) (rules : List SafeRule) (base : FactBase) (i : Instance)
    → has instance_cmp (instances_from n rules base) i ≡ true → IsOf n rules base i
from_there n [] base i there = absurd (cc there)
from_there n (rule ∷ rules) base i there =
    let split = sym (has_append total_instances exact_instances (map (instance_of n) (rows_of base rule))
    (instances_from (suc n) rules base) i) ∙ there in
    elim (either (has instance_cmp (map (instance_of n) (rows_of base rule)) i)
    (has instance_cmp (instances_from (suc n) rules base) i) split) [
      | inl here ↦ let row = row_there n (rows_of base rule) i here in
          (0, rule, (let is = row.0 in omega (arith, is)), refl, row.1)
      | inr later ↦ let rest = from_there (suc n) rules base i later in
          (suc rest.0, rest.1, (let is = rest.2 in omega (arith, is)), rest.3, rest.4)
    ]

from_here : (n : ℕ) (rules : List SafeRule) (base : FactBase) (i : Instance) (place : ℕ) (rule : SafeRule)
    → i.rule ≡ n + place → slice_get rules place ≡ Some rule → has binding_cmp (rows_of base rule) i.row ≡ true
    → has instance_cmp (instances_from n rules base) i ≡ true
from_here n [] base i place rule is at there = absurd (cc at)
from_here n (first ∷ rules) base i zero rule is at there =
    let same : first ≡ rule = cc at in
    let number : i.rule ≡ n = omega (arith, is) in
    let here = row_here n (rows_of base first) i number
    (ap (λ (r : SafeRule). has binding_cmp (rows_of base r) i.row) same ∙ there) in
    has_append total_instances exact_instances (map (instance_of n) (rows_of base first))
    (instances_from (suc n) rules base) i
    ∙ ap (λ b. b || has instance_cmp (instances_from (suc n) rules base) i) here
from_here n (first ∷ rules) base i (suc place) rule is at there =
    let number : i.rule ≡ suc n + place = omega (arith, is) in
    let later = from_here (suc n) rules base i place rule number at there in
    let both = has_append total_instances exact_instances (map (instance_of n) (rows_of base first))
    (instances_from (suc n) rules base) i in
    grind (arith, later, both)

-- a rule of a number counted from 1
at_number : (rules : List SafeRule) (base : FactBase) (i : Instance) (n : ℕ) (rule : SafeRule) → i.rule ≡ n
    → nth_of rules n ≡ Some rule → has binding_cmp (rows_of base rule) i.row ≡ true
    → has instance_cmp (instances_from 1 rules base) i ≡ true
at_number rules base i zero rule is at there = absurd (cc at)
at_number rules base i (suc place) rule is at there =
    from_here 1 rules base i place rule (omega (arith, is)) at there

pub instances_of_rows : HaveInstancesOfTheirRows
instances_of_rows rules w i = (
  λ there.
      let found = from_there 1 rules (base_of w) i there in
      let number : i.rule ≡ suc found.0 = let is = found.2 in omega (arith, is) in
      (found.1, ap (nth_of rules) number ∙ found.3, found.4),
  λ found. at_number rules (base_of w) i i.rule found.0 refl found.1 found.2,
)
