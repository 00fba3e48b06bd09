-- What is made of a rule, step by step.
use Rattle.std.proofs.Common.{◌≡◌, ◌∙◌, ℕ, ℤ, false, Some, None, Err, if◌then◌else◌, sym, ap, subst, refl}
use Rattle.std.specs.declared.option.Option.{Option}
use Rattle.std.specs.declared.result.Result.{Result}
use Rattle.rif_refusals.specs.declared.fault.Fault.{Fault}
use Rattle.rif_refusals.specs.declared.refusal.Refusal.{Refusal}
use Rattle.rif_refusals.specs.declared.refusal.Refusal.TheVariants.{TooManyBranches}
use Rattle.rif_tree.specs.declared.tree.Formula.{Formula}
use Rattle.safe_rules.specs.declared.safe_rule.SafeRule.{SafeRule}
use Rattle.rule_scopes.specs.declared.numbered_rule.NumberedRule.{NumberedRule}
use Rattle.ready_order.specs.Arranging.{Arrangement, arrangement_of}
use Rattle.ready_order.specs.Branches.{has_too_many_branches}
use Rattle.rif_safe.specs.Safeness.{IsMade, arranged_rule, bound_rule, scoped_rule, unsafe_variable}

-- what is the same is made by the same call
pub made_as : (made other : Result SafeRule Refusal) (result : Result SafeRule Fault) → made ≡ other
    → IsMade other result → IsMade made result
made_as made other result same is = subst (λ (one : Result SafeRule Refusal). IsMade one result) (sym same) is

pub scoped_as : (number : ℕ) (priority : ℤ) (rule : NumberedRule) (a : Arrangement)
    → has_too_many_branches rule.condition ≡ false → a ≡ arrangement_of rule.condition
    → scoped_rule number priority rule ≡ arranged_rule number priority rule a
scoped_as number priority rule a few is =
    ap (λ many. if many then Err (TooManyBranches number)
    else arranged_rule number priority rule (arrangement_of rule.condition)) few
    ∙ ap (arranged_rule number priority rule) (sym is)

-- a rule's condition is not asked for once it is divided
abbrev pub with_formula : NumberedRule → Formula → NumberedRule
with_formula rule f = record {
  names = rule.names;
  head_vars = rule.head_vars;
  condition = f;
  decls = rule.decls;
  actions = rule.actions;
}

bound_alike : (number : ℕ) (priority : ℤ) (rule : NumberedRule) (f : Formula) (a : Arrangement) (v : Option ℕ)
    → bound_rule number priority (with_formula rule f) a v ≡ bound_rule number priority rule a v
bound_alike number priority rule f a (Some v) = refl
bound_alike number priority rule f a None = refl

pub arranged_alike : (number : ℕ) (priority : ℤ) (rule : NumberedRule) (f : Formula) (a : Arrangement)
    → arranged_rule number priority (with_formula rule f) a ≡ arranged_rule number priority rule a
arranged_alike number priority rule f a = bound_alike number priority rule f a (unsafe_variable rule a)
