-- Whether a document is safe: its rules by number and with their conditions in a ready order, or its first refusal.
--     unsafe_variable rule a     the variable that isn't bound where a rule's condition is arranged so: where
--                                conjuncts are left, the least that occurs in them and isn't bound; where none is
--                                left, the least `Forall` variable that isn't bound
--     safe_rule number rule      the rule of a number, safe, or its refusal: the first use of a variable where it
--                                doesn't hold, else the first repeated declaration, else too many branches, else the
--                                variable that isn't bound
--     IsMade made result         a call answers what is made of a rule, or want of memory
--     safe_rules_of doc          the rules of a document, or the first refusal, rule by rule
--     RefusesRules doc fault     the fault is this refusal, or want of memory
-- Source: RIF-PRD, "Safeness"; the order of the refusals and of the conjuncts is our own (docs/FORMATS.md,
-- "Refusals").
use Rattle.std.specs.Prelude.{◌≡◌, ℕ, ℤ, suc, List, [], ◌∷◌, Some, None, Ok, Err, if◌then◌else◌}
use Rattle.std.specs.declared.option.Option.{Option}
use Rattle.std.specs.declared.result.Result.{Result}
use Rattle.rif_tree.specs.declared.tree.Formula.TheVariants.{And}
use Rattle.rif_tree.specs.declared.rule.Rule.{Rule}
use Rattle.rif_tree.specs.declared.rule.Doc.{Doc}
use Rattle.rif_tree.specs.Rules.{name_of}
use Rattle.rif_tree.specs.Variables.{without}
use Rattle.rif_refusals.specs.declared.fault.Fault.{Fault}
use Rattle.rif_refusals.specs.declared.fault.Fault.TheVariants.{Refused, OutOfMemory}
use Rattle.rif_refusals.specs.declared.refusal.Refusal.{Refusal}
use Rattle.rif_refusals.specs.declared.refusal.Refusal.TheVariants.{Undeclared, DeclaredTwice, Unsafe}
use Rattle.rif_refusals.specs.declared.refusal.Refusal.TheVariants.{TooManyBranches}
use Rattle.safe_rules.specs.declared.safe_rule.SafeRule.{SafeRule}
use Rattle.safe_rules.specs.Numbers.{numbers_below}
use Rattle.rule_scopes.specs.declared.numbered_rule.NumberedRule.{NumberedRule}
use Rattle.rule_scopes.specs.Numbering.{numbered_rule}
use Rattle.rule_scopes.specs.Occurrences.{first_undeclared, first_repeated}
use Rattle.ready_order.specs.Arranging.{Arrangement, arrangement_of, least_of, least_unbound}
use Rattle.ready_order.specs.Branches.{has_too_many_branches}

abbrev pub unsafe_variable : NumberedRule → Arrangement → Option ℕ
unsafe_variable rule a = elim a.left [
  | [] ↦ least_of (without a.bound (numbers_below rule.head_vars))
  | piece ∷ pieces ↦ least_unbound a
]

-- a numbered rule with its condition as it was arranged
abbrev pub rearranged : ℤ → NumberedRule → Arrangement → SafeRule
rearranged priority rule a = record {
  priority = priority;
  names = rule.names;
  head_vars = rule.head_vars;
  condition = And a.taken;
  decls = rule.decls;
  actions = rule.actions;
}

abbrev pub bound_rule : ℕ → ℤ → NumberedRule → Arrangement → Option ℕ → Result SafeRule Refusal
bound_rule number priority rule a (Some v) = Err (Unsafe number (name_of rule.names v))
bound_rule number priority rule a None = Ok (rearranged priority rule a)

abbrev pub arranged_rule : ℕ → ℤ → NumberedRule → Arrangement → Result SafeRule Refusal
arranged_rule number priority rule a = bound_rule number priority rule a (unsafe_variable rule a)

-- a rule whose variables hold where they stand, each declared once
abbrev pub scoped_rule : ℕ → ℤ → NumberedRule → Result SafeRule Refusal
scoped_rule number priority rule =
    if has_too_many_branches rule.condition then Err (TooManyBranches number)
    else arranged_rule number priority rule (arrangement_of rule.condition)

-- a rule whose uses hold
abbrev pub declared_rule : ℕ → Rule → Option ℕ → Result SafeRule Refusal
declared_rule number rule (Some v) = Err (DeclaredTwice number (name_of rule.names v))
declared_rule number rule None = scoped_rule number rule.priority (numbered_rule rule)

abbrev pub used_rule : ℕ → Rule → Option ℕ → Result SafeRule Refusal
used_rule number rule (Some v) = Err (Undeclared number (name_of rule.names v))
used_rule number rule None = declared_rule number rule (first_repeated rule)

abbrev pub safe_rule : ℕ → Rule → Result SafeRule Refusal
safe_rule number rule = used_rule number rule (first_undeclared rule)

-- what a call that makes a rule safe answers, where this is what is made of it
abbrev pub IsMade : Result SafeRule Refusal → Result SafeRule Fault → Type 0
IsMade made (Ok rule) = made ≡ Ok rule
IsMade made (Err OutOfMemory) = Unit {0}
IsMade made (Err (Refused refusal)) = made ≡ Err refusal

-- one more rule in front, or the first refusal
abbrev pub with_rule : Result SafeRule Refusal → Result (List SafeRule) Refusal → Result (List SafeRule) Refusal
with_rule (Err refusal) later = Err refusal
with_rule (Ok rule) (Err refusal) = Err refusal
with_rule (Ok rule) (Ok rules) = Ok (rule ∷ rules)

-- some rules, of which the first has this number
abbrev pub safe_rules_from : ℕ → List Rule → Result (List SafeRule) Refusal
safe_rules_from number [] = Ok []
safe_rules_from number (rule ∷ rules) = with_rule (safe_rule number rule) (safe_rules_from (suc number) rules)

abbrev pub safe_rules_of : Doc → Result (List SafeRule) Refusal
safe_rules_of doc = safe_rules_from 1 doc.rules

abbrev pub RefusesRules : Doc → Fault → Type 0
RefusesRules doc OutOfMemory = Unit {0}
RefusesRules doc (Refused refusal) = safe_rules_of doc ≡ Err refusal
