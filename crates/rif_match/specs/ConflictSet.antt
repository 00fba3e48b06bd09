-- The conflict set of a state of facts: every instance whose condition is satisfied there, in order, each once.
--     rows_of base rule        the values of the rule's `Forall` variables that satisfy its condition
--     conflict_set rules w     the instances of all rules
-- Source: RIF-PRD, "Operational semantics of a production rule system" and "Definitions and notational conventions".
use Rattle.std.specs.Prelude.{ℕ, suc, List, [], ◌∷◌, ◌++◌, map}
use Rattle.rif_values.specs.declared.fact.Fact.{Fact}
use Rattle.rif_values.specs.declared.instance.Instance.{Instance}
use Rattle.safe_rules.specs.declared.safe_rule.SafeRule.{SafeRule}
use Rattle.rif_values.specs.Bindings.{Row}
use Rattle.rif_builtins.specs.Extensions.{FactBase, base_of, extensions_of}

abbrev pub rows_of : FactBase → SafeRule → List Row
rows_of base rule = extensions_of base [] rule.condition

abbrev pub instance_of : ℕ → Row → Instance
instance_of rule row = record { rule = rule; row = row }

-- the instances of some rules, of which the first has this number
abbrev pub instances_from : ℕ → List SafeRule → FactBase → List Instance
instances_from number [] base = []
instances_from number (rule ∷ rules) base =
    map (instance_of number) (rows_of base rule) ++ instances_from (suc number) rules base

abbrev pub conflict_set : List SafeRule → List Fact → List Instance
conflict_set rules w = instances_from 1 rules (base_of w)
