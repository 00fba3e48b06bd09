-- What `clap` makes of words that are a command.
use Rattle.std.proofs.Common.{◌≡◌, ◌∙◌, Bool, true, false, List, [], ◌∷◌, Option, Some, None, option_map, refl, ap}
use Rattle.std.proofs.Common.{sym, subst, codes, if◌then◌else◌, rules}
use Rattle.std.proofs.lemmas.Bool.{false≢true}
use Rattle.std.specs.Box.{box_value}
use Rattle.std.specs.Prelude.{Box, is_some, unwrap_or}
use Rattle.std.specs.Str.{bytes_eq}
use Rattle.std.proofs.lemmas.Slice.Eq.{bytes_eq-Decides}
use Rattle.clap.proofs.OnLiterals.{clap_on_literals}
use Rattle.clap.specs.Matches.{subcommand_name_of}
use Rattle.clap.specs.Simple.{subcommand_rows}
use Rattle.clap.specs.Words.{HasMatchesOf, Row, Text, is_simple, subcommand_of, takes}
use Rattle.clap.specs.declared.parser.matches.ArgMatches.TheViews.{out-ArgMatches, out-SubCommand}
use Rattle.clap.specs.declared.parser.matches.SubCommand.{SubCommand}
use Rattle.clap.specs.declared.parser.matches.ArgMatches.{ArgMatches}
use Rattle.rif_top.specs.CommandLine.{command_line}
use Rattle.rif_top.specs.Commands.{AreAccepted, IsCommand, command_named, command_of}
use Rattle.rif_top.specs.declared.command.Command.{Command}
use Rattle.rif_top.specs.declared.command.Command.TheVariants.{Check, Run}

abbrev pub nameless : Option Text
nameless = None

-- the name of a command
abbrev pub name_of : Command → Text
name_of Check = codes "check"
name_of Run = codes "run"

abbrev nothing : Option Command
nothing = None

no_command : (command : Command) → nothing ≡ Some command → ⊥
no_command command is = search (rules, is)

not_run : Some Check ≡ Some Run → ⊥
not_run is = search (rules, is)

not_check : Some Run ≡ Some Check → ⊥
not_check is = search (rules, is)

named_by : (word : Text) (is_check is_run : Bool) (command : Command) → bytes_eq word (codes "check") ≡ is_check
    → bytes_eq word (codes "run") ≡ is_run
    → (if is_check then Some Check else (if is_run then Some Run else None)) ≡ Some command → word ≡ name_of command
named_by word true is_run Check check run is = (bytes_eq-Decides word (codes "check")).0 check
named_by word true is_run Run check run is = absurd (not_run is)
named_by word false true Check check run is = absurd (not_check is)
named_by word false true Run check run is = (bytes_eq-Decides word (codes "run")).0 run
named_by word false false command check run is = absurd (no_command command is)

-- words that are a command are its name alone
words_of : (words : List Text) (command : Command) → IsCommand words command → words ≡ name_of command ∷ []
words_of [] command is = absurd (no_command command is)
words_of (word ∷ []) command is = ap (λ (w : Text). w ∷ [])
    (named_by word (bytes_eq word (codes "check")) (bytes_eq word (codes "run")) command refl refl is)
words_of (word ∷ next ∷ more) command is = absurd (no_command command is)

is_plain : is_simple command_line ≡ true
unfolding clap_on_literals
is_plain = refl

takes_name : (command : Command) → takes command_line (name_of command ∷ []) ≡ true
unfolding clap_on_literals
takes_name Check = refl
takes_name Run = refl

enters_name : (command : Command) →
    option_map (λ p. p.0) (subcommand_of command_line (name_of command ∷ [])) ≡ Some (name_of command)
unfolding clap_on_literals
enters_name Check = refl
enters_name Run = refl

-- words that are a command are taken
pub are_taken : (words : List Text) → AreAccepted words → takes command_line words ≡ true
are_taken words told = subst (λ (ws : List Text). takes command_line ws ≡ true)
    (sym (words_of words told.0 told.1)) (takes_name told.0)

module _ {Z : Type 0} where
  entered_name : (entered : Option (Box SubCommand Z)) → option_map (λ p. p.0) (subcommand_rows entered)
      ≡ option_map (λ b. (out-SubCommand (box_value b)).name.now) entered
  entered_name None = refl
  entered_name (Some b) = refl

named_again : (command : Command) → command_named (name_of command) ≡ Some command
named_again Check = refl
named_again Run = refl

-- a parse of words that are a command enters it
module _ (words : List Text) (matches : ArgMatches) (told : AreAccepted words)
    (has : HasMatchesOf command_line words matches) where
  is_entered : subcommand_name_of matches ≡ Some (name_of told.0)
  is_entered = sym (entered_name (out-ArgMatches matches).subcommand)
      ∙ ap (option_map (λ (p : Text × List Row). p.0)) (has is_plain).1
      ∙ ap (λ (ws : List Text). option_map (λ (p : Text × List Row). p.0) (subcommand_of command_line ws))
      (words_of words told.0 told.1) ∙ enters_name told.0

  pub is_told : (name : Text) → Some name ≡ subcommand_name_of matches → command_named name ≡ command_of words
  is_told name is = ap command_named (ap (λ (o : Option Text). unwrap_or o []) (is ∙ is_entered))
      ∙ named_again told.0 ∙ sym told.1

  pub has_name : nameless ≡ subcommand_name_of matches → ⊥
  has_name is = absurd (false≢true (ap (λ (o : Option Text). is_some o) (is ∙ is_entered)))
