-- Rule systems: all that histories, the choice and runs ask of rules.
--     RuleSystem            the instances at each state of facts, in order without repeats, the priority of each
--                           rule, and what the block of an instance does
--     system_of rules       the rule system of a document, by its rules
--     priority_of rules n   the priority of the rule of a number
--     instance_block        the block of an instance, where the facts are these and so many objects were made
-- Source: RIF-PRD, "Operational semantics of a production rule system".
use Rattle.std.specs.Prelude.{ℕ, ℤ, pos, List}
use Rattle.std.specs.Option.{option_map_or}
use Rattle.rif_values.specs.declared.fact.Fact.{Fact}
use Rattle.rif_values.specs.declared.instance.Instance.{Instance}
use Rattle.rif_values.specs.InstanceOrder.{instance_cmp}
use Rattle.rif_values.specs.Sets.{IsSet}
use Rattle.safe_rules.specs.declared.safe_rule.SafeRule.{SafeRule}
use Rattle.safe_rules.specs.SafeRules.{rule_of}
use Rattle.rif_match.specs.ConflictSet.{conflict_set}
use Rattle.rif_match.proofs.CallerLemmas.{conflict_set_is_set}
use Rattle.rif_actions.specs.declared.changes.Block.{Block}
use Rattle.rif_actions.specs.declared.changes.Block.TheVariants.{Void}
use Rattle.rif_actions.specs.Blocks.{block_of}

pub record RuleSystem : Type 0 where
  pub instances : List Fact → List Instance
  pub in_order : (facts : List Fact) → IsSet instance_cmp (instances facts)
  pub priority : ℕ → ℤ
  pub block : Instance → List Fact → ℕ → Block

abbrev pub priority_of : List SafeRule → ℕ → ℤ
priority_of rules number = option_map_or (λ rule. rule.priority) (rule_of rules number) (pos 0)

abbrev pub instance_block : List SafeRule → Instance → List Fact → ℕ → Block
instance_block rules i facts made =
    option_map_or (λ rule. block_of rule i.row facts made) (rule_of rules i.rule) Void

abbrev pub system_of : List SafeRule → RuleSystem
system_of rules = record {
  instances = conflict_set rules;
  in_order = conflict_set_is_set rules;
  priority = priority_of rules;
  block = instance_block rules;
}
