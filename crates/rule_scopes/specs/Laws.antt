-- What is promised of a rule with numbers, where the rule uses no variable where it doesn't hold.
--     IsNumberingScoped   each variable of its condition holds where it stands, with the `Forall` variables around
--                         it, and none is declared where it holds already
--     IsBlockNumbered     and so in its block
--     AreNamesGiven       each of its variables has a name
--     AreNumbersInOrder   its declarations have the numbers in the order of the text, each once: the `Forall`
--                         variables, those of `Exists`, those of the block. This is so of every rule
-- Source: our own (docs/FORMATS.md, "The document's tree").
use Rattle.std.specs.Prelude.{◌≡◌, ℕ, true, ◌+◌, List, ◌++◌, map, length, None}
use Rattle.rif_tree.specs.declared.rule.Rule.{Rule}
use Rattle.rif_tree.specs.Rules.{forall_variables}
use Rattle.rif_tree.specs.Scoped.{is_scoped}
use Rattle.rule_scopes.specs.declared.numbered_rule.NumberedRule.{NumberedRule}
use Rattle.safe_rules.specs.BlockScope.{decl_variable, is_block_scoped}
use Rattle.safe_rules.specs.Named.{all_variables_of, block_variables, are_below}
use Rattle.rule_scopes.specs.Numbering.{declared_in, exists_variables, numbered_rule}
use Rattle.safe_rules.specs.Numbers.{numbers_below, numbers_from}
use Rattle.rule_scopes.specs.Occurrences.{first_undeclared}

abbrev pub IsNumberingScoped : Type 0
IsNumberingScoped = (rule : Rule) → first_undeclared rule ≡ None
    → is_scoped (numbers_below (numbered_rule rule).head_vars) (numbered_rule rule).condition ≡ true

abbrev pub IsBlockNumbered : Type 0
IsBlockNumbered = (rule : Rule) → first_undeclared rule ≡ None
    → is_block_scoped (numbers_below (numbered_rule rule).head_vars) (numbered_rule rule).decls
    (numbered_rule rule).actions ≡ true

abbrev pub all_variables_in : NumberedRule → List ℕ
all_variables_in rule = all_variables_of rule.condition ++ block_variables rule.decls rule.actions

abbrev pub AreNamesGiven : Type 0
AreNamesGiven = (rule : Rule) → first_undeclared rule ≡ None
    → are_below (length (numbered_rule rule).names) (all_variables_in (numbered_rule rule)) ≡ true

pub record IsInOrder (rule : Rule) : Type 0 where
  pub head : (numbered_rule rule).head_vars ≡ length (forall_variables rule)
  pub condition : declared_in (numbered_rule rule).condition
      ≡ numbers_from (numbered_rule rule).head_vars (length (exists_variables rule))
  pub block : map decl_variable (numbered_rule rule).decls
      ≡ numbers_from ((numbered_rule rule).head_vars + length (exists_variables rule)) (length rule.decls)
  pub names : length (numbered_rule rule).names
      ≡ (numbered_rule rule).head_vars + length (exists_variables rule) + length rule.decls
  pub actions : length (numbered_rule rule).actions ≡ length rule.actions

abbrev pub AreNumbersInOrder : Type 0
AreNumbersInOrder = (rule : Rule) → IsInOrder rule
