-- What the rows of a safe rule bind, and of what their rules' conditions are true.
use Rattle.std.proofs.Common.{◌≡◌, ◌↔◌, ◌∙◌, ℕ, zero, suc, true, List, [], ◌∷◌, ◌++◌, slice_get, Some, refl, ap, sym}
use Rattle.std.proofs.Common.{subst}
use Rattle.std.specs.List.{All}
use Rattle.std.proofs.lemmas.List.Elements.{All-head, All-tail, All-weaker}
use Rattle.rif_values.specs.Bindings.{Row}
use Rattle.rif_values.specs.Order.{binding_cmp}
use Rattle.rif_values.specs.Numbers.{nth_of}
use Rattle.rif_values.specs.Sets.{has}
use Rattle.rif_values.proofs.CallerLemmas.{total_bindings, exact_bindings}
use Rattle.rif_sets.proofs.CallerLemmas.{has_contains}
use Rattle.rif_tree.specs.Variables.{free_of, has_variable}
use Rattle.safe_rules.specs.declared.safe_rule.SafeRule.{SafeRule}
use Rattle.safe_rules.specs.SafeRules.{IsSafe, forall_variables}
use Rattle.rif_builtins.specs.ExtensionLaws.{IsExtension}
use Rattle.rif_builtins.specs.Extensions.{FactBase, base_of}
use Rattle.rif_builtins.specs.Truth.{IsReadyAt, IsTrueUnder}
use Rattle.rif_builtins.proofs.CallerLemmas.{evaluation_binds, extension_true}
use Rattle.rif_match.specs.ConflictSet.{rows_of}
use Rattle.rif_match.specs.Laws.{BindsForall, BindForallVariables, GoByTruth}
use Rattle.rif_match.proofs.MembershipLemmas.{instances_of_rows}
use Rattle.rif_match.proofs.RisingLemmas.{in_order_below, binding_below}

module _ (base : FactBase) (rule : SafeRule) (safe : IsSafe rule) where
  extension_binds : (row : Row) → IsExtension [] ([] ++ free_of rule.condition) row → BindsForall rule row
  extension_binds row e = in_order_below row rule.head_vars e.in_order (λ v. e.variables v ∙ safe.binds v)

  binding_extends : (row : Row) → BindsForall rule row → IsExtension [] ([] ++ free_of rule.condition) row
  binding_extends row binds = record {
    in_order = binding_below row rule.head_vars binds;
    values = λ v c is. absurd (cc is);
    variables = λ v. ap (λ (vs : List ℕ). has_variable vs v) binds ∙ sym (safe.binds v);
  }

  ready_at : IsReadyAt [] (forall_variables rule) [] rule.condition
  ready_at = record { in_order = tt; variables = λ v. refl; within = refl; scoped = safe.scoped; ready = safe.ready }

  -- the rows of a safe rule are those that bind its `Forall` variables and make its condition true
  pub rows_true : (row : Row) → (has binding_cmp (rows_of base rule) row ≡ true)
      ↔ (BindsForall rule row × IsTrueUnder base rule.condition row)
  rows_true row =
      let there = has_contains total_bindings exact_bindings (rows_of base rule) row in
      let truth = extension_true base rule.condition (forall_variables rule) [] [] row ready_at in (
        λ has_it. let is = truth.0 (there.0 has_it) in (extension_binds row is.0, is.1),
        λ is. there.1 (truth.1 (binding_extends row is.0, is.1)),
      )

pub rows_bind : BindForallVariables
rows_bind base rule safe =
    let f = rule.condition in
    let vs = forall_variables rule in
    let found = evaluation_binds base f vs [] [] tt (λ v. refl) refl safe.scoped safe.ready in
    All-weaker (IsExtension [] ([] ++ free_of f)) (BindsForall rule) (extension_binds base rule safe)
    (rows_of base rule) found.1

-- what all have, one at a place has
one_of : {X : Type 0} (P : X → Type 0) (xs : List X) (place : ℕ) (x : X) → All P xs → slice_get xs place ≡ Some x
    → P x
one_of P [] place x all is = absurd (cc is)
one_of P (y ∷ ys) zero x all is = let same : y ≡ x = cc is in subst P same (All-head P y ys all)
one_of P (y ∷ ys) (suc place) x all is = one_of P ys place x (All-tail P y ys all) is

numbered : {X : Type 0} (P : X → Type 0) (xs : List X) (n : ℕ) (x : X) → All P xs → nth_of xs n ≡ Some x → P x
numbered P xs zero x all is = absurd (cc is)
numbered P xs (suc place) x all is = one_of P xs place x all is

pub go_by_truth : GoByTruth
go_by_truth rules w i safe =
    let rows = instances_of_rows rules w i in
    let truth = λ (rule : SafeRule) (is : nth_of rules i.rule ≡ Some rule).
    rows_true (base_of w) rule (numbered IsSafe rules i.rule rule safe is) i.row in (
      λ there. let found = rows.0 there in
          let is = (truth found.0 found.1).0 found.2 in (found.0, found.1, is.0, is.1),
      λ found. rows.1 (found.0, found.1, (truth found.0 found.1).1 (found.2, found.3)),
    )
