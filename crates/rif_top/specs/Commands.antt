-- What the words mean that the program is started with, those behind its name.
--     command_of words         the command that the words are, or none
--     IsCommand words c        the words are this command
--     AreAccepted words        the words are a command
-- Source: the project's own (docs/FORMATS.md, "Words").
use Rattle.std.specs.Prelude.{◌≡◌, ℕ, List, [], ◌∷◌, Some, None, codes, if◌then◌else◌}
use Rattle.std.specs.Str.{bytes_eq}
use Rattle.std.specs.declared.option.Option.{Option}
use Rattle.rif_top.specs.declared.command.Command.{Command}
use Rattle.rif_top.specs.declared.command.Command.TheVariants.{Check, Run}

abbrev pub command_named : List ℕ → Option Command
command_named word =
    if bytes_eq word (codes "check") then Some Check else (if bytes_eq word (codes "run") then Some Run else None)

abbrev pub command_of : List (List ℕ) → Option Command
command_of [] = None
command_of (word ∷ []) = command_named word
command_of (word ∷ next ∷ more) = None

-- the words are this command
abbrev pub IsCommand : List (List ℕ) → Command → Type 0
IsCommand words command = command_of words ≡ Some command

-- the words are a command
abbrev pub AreAccepted : List (List ℕ) → Type 0
AreAccepted words = (command : Command) × IsCommand words command
