-- What the words of safeness promise.
--     IsMadeSafe      a rule that has no refusal is made a safe rule
-- Source: RIF-PRD, "Safeness".
use Rattle.std.specs.Prelude.{◌≡◌, ℕ, Ok}
use Rattle.rif_tree.specs.declared.rule.Rule.{Rule}
use Rattle.safe_rules.specs.declared.safe_rule.SafeRule.{SafeRule}
use Rattle.safe_rules.specs.SafeRules.{IsSafe}
use Rattle.rif_safe.specs.Safeness.{safe_rule}

abbrev pub IsMadeSafe : Type 0
IsMadeSafe = (number : ℕ) (rule : Rule) (made : SafeRule) → safe_rule number rule ≡ Ok made → IsSafe made
