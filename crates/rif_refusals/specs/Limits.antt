-- The limits of a document and of a job. Each is the greatest number that is allowed.
--     most_input_bytes        the bytes of an input
--     most_open_brackets      the brackets that are open at one place of a document
--     most_rules              the rules of a document
--     most_variables          the variable names of a rule
--     most_patterns           the patterns in the conditions of a rule
--     most_actions            the actions of a rule
--     most_branches           the branches of a rule's condition, and of a formula inside `Not` or `Exists`
--     most_priority           a group's priority, and its negation the least one
--     most_budgets            the budgets of a script together, in firings
--     most_items              the items of a script
--     most_clients            the clients of a script
--     most_name_characters    the characters of a client's name
--     most_batch_items        the items of one batch
-- Source: the project's own (docs/FORMATS.md, "Limits").
use Rattle.std.specs.Prelude.{ℕ}

abbrev pub most_input_bytes : ℕ
most_input_bytes = 4194304

abbrev pub most_open_brackets : ℕ
most_open_brackets = 64

abbrev pub most_rules : ℕ
most_rules = 1024

abbrev pub most_variables : ℕ
most_variables = 32

abbrev pub most_patterns : ℕ
most_patterns = 32

abbrev pub most_actions : ℕ
most_actions = 32

abbrev pub most_branches : ℕ
most_branches = 64

abbrev pub most_priority : ℕ
most_priority = 10000

abbrev pub most_budgets : ℕ
most_budgets = 1000000

abbrev pub most_items : ℕ
most_items = 65536

abbrev pub most_clients : ℕ
most_clients = 16

abbrev pub most_name_characters : ℕ
most_name_characters = 16

abbrev pub most_batch_items : ℕ
most_batch_items = 1024
