-- The numbers of the refusals.
-- Source: the project's own (docs/FORMATS.md, "Refusals").
use Rattle.std.specs.Prelude.{ℕ}
use Rattle.rif_refusals.specs.declared.refusal.Refusal.{Refusal}
use Rattle.rif_refusals.specs.declared.refusal.Refusal.TheVariants.{InputTooLong, NotUtf8, BadToken, Expected}
use Rattle.rif_refusals.specs.declared.refusal.Refusal.TheVariants.{TooDeep, IntRange, UnknownPrefix, LeftOut}
use Rattle.rif_refusals.specs.declared.refusal.Refusal.TheVariants.{UnknownBuiltin, Arity, BadStrategy, PriorityRange}
use Rattle.rif_refusals.specs.declared.refusal.Refusal.TheVariants.{TooMany, Undeclared, DeclaredTwice, Unsafe}
use Rattle.rif_refusals.specs.declared.refusal.Refusal.TheVariants.{BadLine, BudgetTooLarge, TooManyItems}
use Rattle.rif_refusals.specs.declared.refusal.Refusal.TheVariants.{TooManyClients, TooManyBranches}

-- the number by which a run prints a refusal
abbrev pub refusal_number : Refusal → ℕ
refusal_number InputTooLong = 1
refusal_number (NotUtf8 at) = 2
refusal_number (BadToken line col) = 3
refusal_number (Expected line col) = 4
refusal_number (TooDeep line col) = 5
refusal_number (IntRange line col) = 6
refusal_number (UnknownPrefix line col) = 7
refusal_number (LeftOut line col) = 8
refusal_number (UnknownBuiltin line col) = 9
refusal_number (Arity line col) = 10
refusal_number (BadStrategy line col) = 11
refusal_number (PriorityRange line col) = 12
refusal_number (TooMany what line col) = 13
refusal_number (Undeclared rule name) = 14
refusal_number (DeclaredTwice rule name) = 15
refusal_number (Unsafe rule name) = 16
refusal_number (BadLine line) = 17
refusal_number (BudgetTooLarge line) = 18
refusal_number (TooManyItems line) = 19
refusal_number (TooManyClients line) = 20
refusal_number (TooManyBranches rule) = 21
