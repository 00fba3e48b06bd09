-- What the words of conflict sets promise: the statements of the laws in src/laws.rt.
--     BindsForall rule row     the row has values for exactly the rule's `Forall` variables, in order
-- Source: RIF-PRD, "Definitions and notational conventions", "Matching substitution" and "Condition satisfaction";
-- that instances have an order is the project's own (docs/PROFILE.md, "Order").
use Rattle.std.specs.Prelude.{◌≡◌, ◌↔◌, true, List, Some}
use Rattle.std.specs.List.{All}
use Rattle.rif_values.specs.declared.fact.Fact.{Fact}
use Rattle.rif_values.specs.declared.instance.Instance.{Instance}
use Rattle.safe_rules.specs.declared.safe_rule.SafeRule.{SafeRule}
use Rattle.safe_rules.specs.SafeRules.{IsSafe, forall_variables, rule_of}
use Rattle.rif_values.specs.Bindings.{Row}
use Rattle.rif_values.specs.InstanceOrder.{instance_cmp}
use Rattle.rif_values.specs.Order.{binding_cmp}
use Rattle.rif_values.specs.Sets.{has, IsSet}
use Rattle.rif_builtins.specs.ExtensionLaws.{variables_in}
use Rattle.rif_builtins.specs.Extensions.{FactBase, base_of}
use Rattle.rif_builtins.specs.Truth.{IsTrueUnder}
use Rattle.rif_match.specs.ConflictSet.{conflict_set, rows_of}

-- Law: a conflict set is in order without repeats.
abbrev pub AreConflictSetsSets : Type 0
AreConflictSetsSets = (rules : List SafeRule) (w : List Fact) → IsSet instance_cmp (conflict_set rules w)

-- Law: an instance is in the conflict set exactly where there is a rule of its number, and its row is in the rule's.
abbrev pub HaveInstancesOfTheirRows : Type 0
HaveInstancesOfTheirRows = (rules : List SafeRule) (w : List Fact) (i : Instance)
    → (has instance_cmp (conflict_set rules w) i ≡ true)
    ↔ ((rule : SafeRule) × (rule_of rules i.rule ≡ Some rule)
    × (has binding_cmp (rows_of (base_of w) rule) i.row ≡ true))

abbrev pub BindsForall : SafeRule → Row → Type 0
BindsForall rule row = variables_in row ≡ forall_variables rule

-- Law: each row of a safe rule has values for exactly the rule's `Forall` variables, in order.
abbrev pub BindForallVariables : Type 0
BindForallVariables = (base : FactBase) (rule : SafeRule) → IsSafe rule → All (BindsForall rule) (rows_of base rule)

-- Law: an instance is in the conflict set of safe rules exactly where there is a rule of its number, its row has
-- values for exactly the rule's `Forall` variables, in order, and the rule's condition is true under the row.
abbrev pub GoByTruth : Type 0
GoByTruth = (rules : List SafeRule) (w : List Fact) (i : Instance) → All IsSafe rules
    → (has instance_cmp (conflict_set rules w) i ≡ true)
    ↔ ((rule : SafeRule) × (rule_of rules i.rule ≡ Some rule) × BindsForall rule i.row
    × IsTrueUnder (base_of w) rule.condition i.row)
