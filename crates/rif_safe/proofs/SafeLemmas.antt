-- A rule that has no refusal is safe.
use Rattle.std.proofs.Common.{◌≡◌, ◌∙◌, ℕ, ℤ, Bool, true, false, cond, not, ◌&&◌, List, [], ◌∷◌, ◌++◌, Some, None}
use Rattle.std.proofs.Common.{Ok, Err, if◌then◌else◌, length, nat_lt, ◌+◌, refl, sym, ap, ap₂, subst, arith}
use Rattle.std.specs.declared.option.Option.{Option}
use Rattle.std.specs.declared.result.Result.{Result}
use Rattle.rif_refusals.specs.declared.refusal.Refusal.{Refusal}
use Rattle.rif_refusals.specs.declared.refusal.Refusal.TheVariants.{TooManyBranches}
use Rattle.rif_tree.specs.declared.tree.Formula.{Formula}
use Rattle.rif_tree.specs.declared.tree.Formula.TheVariants.{And}
use Rattle.rif_tree.specs.declared.rule.Rule.{Rule}
use Rattle.rif_tree.specs.Laws.{AreSame}
use Rattle.rif_tree.specs.Scoped.{is_scoped}
use Rattle.rif_tree.specs.Variables.{has_variable, has_all, without, free_of}
use Rattle.rif_tree.proofs.CallerLemmas.{and_second, has_all_elim, part_free, same_tests}
use Rattle.std.proofs.lemmas.List.Folds.{list_all-append}
use Rattle.rule_scopes.proofs.CallerLemmas.{below_append, below_more, numbers_are_below}
use Rattle.rule_scopes.specs.Laws.{AreNamesGiven, AreNumbersInOrder, IsBlockNumbered, IsNumberingScoped}
use Rattle.rule_scopes.specs.Laws.{all_variables_in}
use Rattle.rif_builtins.proofs.CallerLemmas.{free_holds}
use Rattle.safe_rules.specs.declared.safe_rule.SafeRule.{SafeRule}
use Rattle.safe_rules.specs.BlockScope.{is_block_scoped}
use Rattle.safe_rules.specs.Named.{all_variables_of, are_below, block_variables}
use Rattle.safe_rules.specs.Numbers.{numbers_below}
use Rattle.safe_rules.specs.SafeRules.{IsSafe}
use Rattle.rule_scopes.specs.declared.numbered_rule.NumberedRule.{NumberedRule}
use Rattle.rule_scopes.specs.Numbering.{exists_variables, numbered_rule}
use Rattle.rule_scopes.specs.Occurrences.{first_undeclared, first_repeated}
use Rattle.ready_order.specs.Arranging.{Arrangement, Piece, arrangement_of, least_of, least_unbound}
use Rattle.ready_order.specs.Branches.{has_too_many_branches}
use Rattle.ready_order.specs.Conjuncts.{conjuncts_of}
use Rattle.ready_order.specs.Laws.{AreTakenReady, IsArrangementScoped, IsLeftNamed, IsLeftUnbound, IsTakenReady}
use Rattle.rif_safe.specs.Laws.{IsMadeSafe}
use Rattle.rif_safe.specs.Safeness.{arranged_rule, bound_rule, declared_rule, rearranged, scoped_rule}
use Rattle.rif_safe.specs.Safeness.{unsafe_variable, used_rule}

-- ---- what a rule that is made comes from

-- its uses hold
pub uses_hold : (number : ℕ) (rule : Rule) (made : SafeRule) (found : Option ℕ) → first_undeclared rule ≡ found
    → used_rule number rule found ≡ Ok made
    → (first_undeclared rule ≡ None) × (declared_rule number rule (first_repeated rule) ≡ Ok made)
uses_hold number rule made (Some v) is comes = absurd (cc comes)
uses_hold number rule made None is comes = (is, comes)

-- its declarations are new
pub declared_once : (number : ℕ) (rule : Rule) (made : SafeRule) (found : Option ℕ)
    → declared_rule number rule found ≡ Ok made → scoped_rule number rule.priority (numbered_rule rule) ≡ Ok made
declared_once number rule made (Some v) comes = absurd (cc comes)
declared_once number rule made None comes = comes

few_branches : (number : ℕ) (later : Result SafeRule Refusal) (made : SafeRule) (many : Bool)
    → (if many then Err (TooManyBranches number) else later) ≡ Ok made → later ≡ Ok made
few_branches number later made true comes = absurd (cc comes)
few_branches number later made false comes = comes

-- its condition has few branches
pub arranged_once : (number : ℕ) (priority : ℤ) (rule : NumberedRule) (made : SafeRule)
    → scoped_rule number priority rule ≡ Ok made
    → arranged_rule number priority rule (arrangement_of rule.condition) ≡ Ok made
arranged_once number priority rule made comes =
    few_branches number (arranged_rule number priority rule (arrangement_of rule.condition)) made
    (has_too_many_branches rule.condition) comes

ok_same : (rule made : SafeRule) → (◌≡◌ {A = Result SafeRule Refusal} (Ok rule) (Ok made)) → rule ≡ made
ok_same rule made is = cc is

-- and each variable is bound
pub bound_all : (number : ℕ) (priority : ℤ) (rule : NumberedRule) (a : Arrangement) (made : SafeRule)
    (found : Option ℕ) → unsafe_variable rule a ≡ found → bound_rule number priority rule a found ≡ Ok made
    → (unsafe_variable rule a ≡ None) × (rearranged priority rule a ≡ made)
bound_all number priority rule a made (Some v) is comes = absurd (cc comes)
bound_all number priority rule a made None is comes = (is, ok_same (rearranged priority rule a) made comes)

-- ---- where no variable is unbound

none_outside : (bound vs : List ℕ) → least_of (without bound vs) ≡ None → has_all bound vs ≡ true
none_outside bound [] none = refl
none_outside bound (v ∷ vs) none = at_first v bound vs (has_variable bound v) refl none (none_outside bound vs)
  where
    at_first : (v : ℕ) (bound vs : List ℕ) (there : Bool) → has_variable bound v ≡ there
        → least_of (cond (not there) (v ∷ without bound vs) (without bound vs)) ≡ None
        → (least_of (without bound vs) ≡ None → has_all bound vs ≡ true)
        → (has_variable bound v && has_all bound vs) ≡ true
    at_first v bound vs true there none rest = ap₂ (λ a b. a && b) there (rest none)
    at_first v bound vs false there none rest = absurd (cc none)

abbrev unbound_where : NumberedRule → Arrangement → List Piece → Option ℕ
unbound_where rule a left = elim left [
  | [] ↦ least_of (without a.bound (numbers_below rule.head_vars))
  | piece ∷ pieces ↦ least_unbound a
]

left_at : (rule : NumberedRule) (a : Arrangement) (left : List Piece) → a.left ≡ left
    → (least_unbound a ≡ None → a.left ≡ []) → unbound_where rule a left ≡ None
    → (a.left ≡ []) × (has_all a.bound (numbers_below rule.head_vars) ≡ true)
left_at rule a [] is named none = (is, none_outside a.bound (numbers_below rule.head_vars) none)
left_at rule a (piece ∷ pieces) is named none = absurd (cc (sym is ∙ named none))

-- none is left, and the `Forall` variables are bound
pub none_unbound : (rule : NumberedRule) (a : Arrangement) → IsLeftNamed a → unsafe_variable rule a ≡ None
    → (a.left ≡ []) × (has_all a.bound (numbers_below rule.head_vars) ≡ true)
none_unbound rule a left none = left_at rule a a.left refl left.named none

-- ---- the free variables

-- what is free in a condition in scope, and bound by it, are the variables that hold around it
pub binds_exactly : (f : Formula) (held bound : List ℕ) → is_scoped held f ≡ true → AreSame (free_of f) bound
    → has_all bound held ≡ true → AreSame (free_of f) held
binds_exactly f held bound scoped same all v =
    same_tests (has_variable (free_of f) v) (has_variable held v)
    (has_all_elim held (free_of f) (sym (ap (has_all held) (part_free f)) ∙ free_holds f held scoped) v)
    (λ there. same v ∙ has_all_elim bound held all v there)

-- ---- the rule that is made

later_all : (n : ℕ) (us vs : List ℕ) → are_below n (us ++ vs) ≡ true → are_below n vs ≡ true
later_all n us vs all =
    and_second (are_below n us) (are_below n vs) (sym (list_all-append (λ v. nat_lt v n) us vs) ∙ all)

from_zero : (n : ℕ) → n ≡ 0 + n
from_zero n = omega arith

-- each of its variables has a name
names_enough : (n : NumberedRule) (more : ℕ) → length n.names ≡ n.head_vars + more
    → are_below (length n.names) (all_variables_in n) ≡ true
    → are_below (length n.names) (numbers_below n.head_vars ++ block_variables n.decls n.actions) ≡ true
names_enough n more count all =
    let head : are_below n.head_vars (numbers_below n.head_vars) ≡ true =
    ap (λ m. are_below m (numbers_below n.head_vars)) (from_zero n.head_vars) ∙ numbers_are_below 0 n.head_vars in
    below_append (length n.names) (numbers_below n.head_vars) (block_variables n.decls n.actions)
    (below_more n.head_vars (length n.names) (numbers_below n.head_vars) (omega (arith, count)) head)
    (later_all (length n.names) (all_variables_of n.condition) (block_variables n.decls n.actions) all)

safe_of : (priority : ℤ) (n : NumberedRule) (a : Arrangement) (more : ℕ)
    → is_scoped (numbers_below n.head_vars) (And a.taken) ≡ true → IsTakenReady [] a
    → has_all a.bound (numbers_below n.head_vars) ≡ true
    → is_block_scoped (numbers_below n.head_vars) n.decls n.actions ≡ true
    → length n.names ≡ n.head_vars + more → are_below (length n.names) (all_variables_in n) ≡ true
    → IsSafe (rearranged priority n a)
safe_of priority n a more scoped taken all block count named = record {
  ready = taken.together;
  scoped = scoped;
  binds = binds_exactly (And a.taken) (numbers_below n.head_vars) a.bound scoped taken.binds all;
  block = block;
  named = names_enough n more count named;
}

count_more : (n head exists decls : ℕ) → n ≡ head + exists + decls → n ≡ head + (exists + decls)
count_more n head exists decls is = omega (arith, is)

pub made_safe : IsNumberingScoped → IsBlockNumbered → AreNamesGiven → AreNumbersInOrder → AreTakenReady
    → IsLeftUnbound → IsArrangementScoped → IsMadeSafe
made_safe scoped block named order ready left arranged number rule made comes =
    let n = numbered_rule rule in
    let a = arrangement_of n.condition in
    let held = uses_hold number rule made (first_undeclared rule) refl comes in
    let bound = bound_all number rule.priority n a made (unsafe_variable n a) refl
    (arranged_once number rule.priority n made
    (declared_once number rule made (first_repeated rule) held.1)) in
    let none = none_unbound n a (left [] (conjuncts_of n.condition)) bound.0 in
    subst IsSafe bound.1
    (safe_of rule.priority n a (length (exists_variables rule) + length rule.decls)
    (arranged (numbers_below n.head_vars) n.condition (scoped rule held.0)) (ready [] (conjuncts_of n.condition))
    none.1 (block rule held.0)
    (count_more (length n.names) n.head_vars (length (exists_variables rule)) (length rule.decls) (order rule).names)
    (named rule held.0))
