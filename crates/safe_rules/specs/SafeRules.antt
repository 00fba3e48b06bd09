-- What a safe rule keeps, and what is said of it.
--     forall_variables rule    the rule's `Forall` variables: the numbers below `head_vars`, which its instances bind
--     IsSafe rule              the condition is ready as it stands, and in scope for the `Forall` variables, which
--                              are those that it has free; the block is in scope behind it; and each variable has a
--                              name, but for those that an `Exists` declares
--     AreSafe rules            at most 1,024 rules, each safe
--     shown_variables rule     the `Forall` variables, each with its name, as a run shows them
--     rule_of rules n          the rule of a number, counted from 1
-- Source: RIF-PRD, "Safeness" and "Rules"; the numbers, the names and the ready order are our own (docs/PROFILE.md,
-- "Ready order"), and how a run shows variables too (docs/FORMATS.md, "The trace").
use Rattle.std.specs.Prelude.{◌≡◌, ◌≤◌, ℕ, true, List, [], map, length, ◌++◌}
use Rattle.std.specs.List.{All}
use Rattle.std.specs.declared.option.Option.{Option}
use Rattle.rif_values.specs.Numbers.{nth_of}
use Rattle.rif_tree.specs.Laws.{AreSame}
use Rattle.rif_tree.specs.Ready.{is_ready}
use Rattle.rif_tree.specs.Rules.{name_of}
use Rattle.rif_tree.specs.Scoped.{is_scoped}
use Rattle.rif_tree.specs.Variables.{free_of}
use Rattle.safe_rules.specs.BlockScope.{is_block_scoped}
use Rattle.safe_rules.specs.Named.{are_below, block_variables}
use Rattle.safe_rules.specs.Numbers.{numbers_below}
use Rattle.safe_rules.specs.declared.safe_rule.SafeRule.{SafeRule}

abbrev pub forall_variables : SafeRule → List ℕ
forall_variables rule = numbers_below rule.head_vars

-- the variables of a rule but for those that an `Exists` declares
abbrev pub rule_variables : SafeRule → List ℕ
rule_variables rule = forall_variables rule ++ block_variables rule.decls rule.actions

pub record IsSafe (rule : SafeRule) : Type 0 where
  pub ready : is_ready [] rule.condition ≡ true
  pub scoped : is_scoped (forall_variables rule) rule.condition ≡ true
  pub binds : AreSame (free_of rule.condition) (forall_variables rule)
  pub block : is_block_scoped (forall_variables rule) rule.decls rule.actions ≡ true
  pub named : are_below (length rule.names) (rule_variables rule) ≡ true

abbrev pub AreSafe : List SafeRule → Type 0
AreSafe rules = (length rules ≤ 1024) × All IsSafe rules

abbrev pub shown_variables : SafeRule → List (ℕ × List ℕ)
shown_variables rule = map (λ v. (v, name_of rule.names v)) (forall_variables rule)

abbrev pub rule_of : List SafeRule → ℕ → Option SafeRule
rule_of rules number = nth_of rules number
