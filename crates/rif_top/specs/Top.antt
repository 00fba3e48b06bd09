-- What the program's top call says of its words, its source and its sink.
--     WritesAnswer            an input was read of the source, and its answer was written whole
--     WritesFrontOfAnswer     the same, and a front of its answer was written
--     AreTaken words left     the words are a command, and what is left of the source is a job
--     AreRefused words left   the words are a command, and what is left of the source has a refusal
-- Source: the project's own (docs/FORMATS.md, "Words" and "Statuses").
use Rattle.std.specs.Prelude.{◌≡◌, ℕ, ◌+◌, List, Some}
use Rattle.std.specs.Io.KnownBytes.{Appends}
use Rattle.std.specs.declared.option.Option.{Option}
use Rattle.rif_refusals.specs.Limits.{most_input_bytes}
use Rattle.rif_refusals.specs.declared.refusal.Refusal.{Refusal}
use Rattle.rif_script.specs.declared.job.Job.{Job}
use Rattle.rif_script.specs.Jobs.{IsJob, IsRefused}
use Rattle.rif_top.specs.declared.command.Command.{Command}
use Rattle.rif_top.specs.declared.status.Status.{Status}
use Rattle.rif_top.specs.Answer.{IsAnswerTo}
use Rattle.rif_top.specs.Commands.{IsCommand}
use Rattle.rif_top.specs.Reading.{ReadsFront}
use Rattle.rif_top.specs.Writing.{WritesFront}

-- the most bytes that are read of an input: one more than an input may have
abbrev pub most_bytes_read : ℕ
most_bytes_read = most_input_bytes + 1

-- an input was read of the source, and this text with this status is the answer to it
pub record ReadsAnswer (words : List (List ℕ)) (left left' : Option (List ℕ)) (status : Status)
    (text : List ℕ) : Type 0 where
  pub command : Command
  pub told : IsCommand words command
  pub input : List ℕ
  pub read : ReadsFront most_bytes_read left left' input
  pub answers : IsAnswerTo command input status text

-- such a text was written to the sink
abbrev pub WritesAnswer : List (List ℕ) → Status → Option (List ℕ) → Option (List ℕ) → Option (List ℕ)
    → Option (List ℕ) → Type 0
WritesAnswer words status left left' written written' =
    (text : List ℕ) × ReadsAnswer words left left' status text × Appends written written' text

-- the first bytes of such a text were written to the sink
abbrev pub WritesFrontOfAnswer : List (List ℕ) → Option (List ℕ) → Option (List ℕ) → Option (List ℕ)
    → Option (List ℕ) → Type 0
WritesFrontOfAnswer words left left' written written' =
    (status : Status) × (text : List ℕ) × ReadsAnswer words left left' status text × WritesFront written written' text

-- the words are a command, and the source tells that an input is left which is a job
pub record AreTaken (words : List (List ℕ)) (left : Option (List ℕ)) : Type 0 where
  pub command : Command
  pub told : IsCommand words command
  pub input : List ℕ
  pub left_is : left ≡ Some input
  pub job : Job
  pub taken : IsJob input job

-- the words are a command, and the source tells that an input is left which has a refusal
pub record AreRefused (words : List (List ℕ)) (left : Option (List ℕ)) : Type 0 where
  pub command : Command
  pub told : IsCommand words command
  pub input : List ℕ
  pub left_is : left ≡ Some input
  pub refusal : Refusal
  pub refused : IsRefused input refusal
