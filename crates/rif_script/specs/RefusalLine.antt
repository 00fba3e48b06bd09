-- The line that a run prints for a refused input.
-- Source: the project's own (docs/FORMATS.md, "Refusals").
use Rattle.std.specs.Prelude.{ℕ, List, [], ◌++◌, codes, decimal}
use Rattle.rif_refusals.specs.Refusals.{refusal_number}
use Rattle.rif_refusals.specs.declared.refusal.Counted.{Counted}
use Rattle.rif_refusals.specs.declared.refusal.Counted.TheVariants.{Rules, Variables, Patterns, Actions}
use Rattle.rif_refusals.specs.declared.refusal.Refusal.{Refusal}
use Rattle.rif_refusals.specs.declared.refusal.Refusal.TheVariants.{InputTooLong, NotUtf8, BadToken, Expected}
use Rattle.rif_refusals.specs.declared.refusal.Refusal.TheVariants.{TooDeep}
use Rattle.rif_refusals.specs.declared.refusal.Refusal.TheVariants.{IntRange, UnknownPrefix, LeftOut, UnknownBuiltin}
use Rattle.rif_refusals.specs.declared.refusal.Refusal.TheVariants.{Arity, BadStrategy, PriorityRange, TooMany}
use Rattle.rif_refusals.specs.declared.refusal.Refusal.TheVariants.{Undeclared, DeclaredTwice, Unsafe, BadLine}
use Rattle.rif_refusals.specs.declared.refusal.Refusal.TheVariants.{BudgetTooLarge}
use Rattle.rif_refusals.specs.declared.refusal.Refusal.TheVariants.{TooManyItems, TooManyClients, TooManyBranches}

-- what there are too many of
abbrev pub counted_word : Counted → List ℕ
counted_word Rules = codes " rules"
counted_word Variables = codes " variables"
counted_word Patterns = codes " patterns"
counted_word Actions = codes " actions"

-- a place of the input
abbrev pub place_text : ℕ → ℕ → List ℕ
place_text line col = codes " line " ++ decimal line ++ codes " col " ++ decimal col

-- a variable of a rule
abbrev pub variable_text : ℕ → List ℕ → List ℕ
variable_text rule name = codes " rule " ++ decimal rule ++ codes " var ?" ++ name

-- what a refusal names, behind its number
abbrev pub refusal_fields : Refusal → List ℕ
refusal_fields InputTooLong = []
refusal_fields (NotUtf8 at) = codes " at " ++ decimal at
refusal_fields (BadToken line col) = place_text line col
refusal_fields (Expected line col) = place_text line col
refusal_fields (TooDeep line col) = place_text line col
refusal_fields (IntRange line col) = place_text line col
refusal_fields (UnknownPrefix line col) = place_text line col
refusal_fields (LeftOut line col) = place_text line col
refusal_fields (UnknownBuiltin line col) = place_text line col
refusal_fields (Arity line col) = place_text line col
refusal_fields (BadStrategy line col) = place_text line col
refusal_fields (PriorityRange line col) = place_text line col
refusal_fields (TooMany what line col) = counted_word what ++ place_text line col
refusal_fields (Undeclared rule name) = variable_text rule name
refusal_fields (DeclaredTwice rule name) = variable_text rule name
refusal_fields (Unsafe rule name) = variable_text rule name
refusal_fields (BadLine line) = codes " line " ++ decimal line
refusal_fields (BudgetTooLarge line) = codes " line " ++ decimal line
refusal_fields (TooManyItems line) = codes " line " ++ decimal line
refusal_fields (TooManyClients line) = codes " line " ++ decimal line
refusal_fields (TooManyBranches rule) = codes " rule " ++ decimal rule

-- the line, with its line feed
abbrev pub refusal_line : Refusal → List ℕ
refusal_line refusal = codes "refused " ++ decimal (refusal_number refusal) ++ refusal_fields refusal ++ codes "\n"
