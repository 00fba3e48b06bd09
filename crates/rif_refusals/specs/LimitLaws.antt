-- The code's limits are the stated numbers.
--     AreTheStatedOnes      each limit of the code is the number of its definition
-- Source: the project's own (docs/FORMATS.md, "Limits").
use Rattle.std.specs.Prelude.{◌≡◌, pos}
use Rattle.rif_refusals.specs.declared.limits.TheConstants.{MOST_INPUT_BYTES, MOST_OPEN_BRACKETS, MOST_RULES}
use Rattle.rif_refusals.specs.declared.limits.TheConstants.{MOST_VARIABLES, MOST_PATTERNS, MOST_ACTIONS}
use Rattle.rif_refusals.specs.declared.limits.TheConstants.{MOST_BRANCHES}
use Rattle.rif_refusals.specs.declared.limits.TheConstants.{MOST_PRIORITY, MOST_BUDGETS, MOST_ITEMS, MOST_CLIENTS}
use Rattle.rif_refusals.specs.declared.limits.TheConstants.{MOST_NAME_CHARACTERS, MOST_BATCH_ITEMS}
use Rattle.rif_refusals.specs.Limits.{most_input_bytes, most_open_brackets, most_rules, most_variables, most_patterns}
use Rattle.rif_refusals.specs.Limits.{most_actions, most_branches, most_priority, most_budgets, most_items}
use Rattle.rif_refusals.specs.Limits.{most_clients, most_name_characters, most_batch_items}

pub record AreTheStatedOnes : Type 0 where
  pub input_bytes : MOST_INPUT_BYTES ≡ most_input_bytes
  pub open_brackets : MOST_OPEN_BRACKETS ≡ most_open_brackets
  pub rules_of_a_document : MOST_RULES ≡ most_rules
  pub variables : MOST_VARIABLES ≡ most_variables
  pub patterns : MOST_PATTERNS ≡ most_patterns
  pub actions : MOST_ACTIONS ≡ most_actions
  pub branches : MOST_BRANCHES ≡ most_branches
  pub priority : MOST_PRIORITY ≡ pos most_priority
  pub budgets : MOST_BUDGETS ≡ most_budgets
  pub items : MOST_ITEMS ≡ most_items
  pub clients : MOST_CLIENTS ≡ most_clients
  pub name_characters : MOST_NAME_CHARACTERS ≡ most_name_characters
  pub batch_items : MOST_BATCH_ITEMS ≡ most_batch_items
