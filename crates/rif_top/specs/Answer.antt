-- What the program answers to an input.
--     IsCheckText input text          the text is that of the document that was read of an input which is a job
--     IsTextFor command input text    what a command makes of an input
--     IsRefusalText input text        the line of the refusal of an input
--     IsAnswerTo command input s t    the answer to an input is this text with this status
--     OneAnswer                       law: an input and a command have one answer at most
-- Source: the project's own (docs/FORMATS.md, "Words" and "Statuses").
use Rattle.std.specs.Prelude.{◌≡◌, ℕ, List}
use Rattle.rif_refusals.specs.declared.refusal.Refusal.{Refusal}
use Rattle.rif_tree.specs.declared.rule.Doc.{Doc}
use Rattle.prd_writing.specs.Canonical.{canonical_text}
use Rattle.rif_script.specs.declared.job.Job.{Job}
use Rattle.rif_script.specs.Jobs.{IsJobOf, IsRefused}
use Rattle.rif_script.specs.RefusalLine.{refusal_line}
use Rattle.rif_top.specs.declared.command.Command.{Command}
use Rattle.rif_top.specs.declared.command.Command.TheVariants.{Check, Run}
use Rattle.rif_top.specs.declared.status.Status.{Status}
use Rattle.rif_top.specs.declared.status.Status.TheVariants.{Done, Refused, Usage, ReadFault, WriteFault, OutOfMemory}
use Rattle.rif_top.specs.Runs.{IsRunText}

-- the input is a job, and the text is the canonical text of its document as it was read
abbrev pub IsCheckText : List ℕ → List ℕ → Type 0
IsCheckText input text = (doc : Doc) × (job : Job) × IsJobOf input doc job × (text ≡ canonical_text doc)

-- what a command makes of an input
abbrev pub IsTextFor : Command → List ℕ → List ℕ → Type 0
IsTextFor Check input text = IsCheckText input text
IsTextFor Run input text = IsRunText input text

-- the line of the refusal of an input
abbrev pub IsRefusalText : List ℕ → List ℕ → Type 0
IsRefusalText input text = (refusal : Refusal) × IsRefused input refusal × (text ≡ refusal_line refusal)

-- the answer to an input is this text with this status: what the command makes of it, or the line of its refusal
abbrev pub IsAnswerTo : Command → List ℕ → Status → List ℕ → Type 0
IsAnswerTo command input Done text = IsTextFor command input text
IsAnswerTo command input Refused text = IsRefusalText input text
IsAnswerTo command input Usage text = ⊥
IsAnswerTo command input ReadFault text = ⊥
IsAnswerTo command input WriteFault text = ⊥
IsAnswerTo command input OutOfMemory text = ⊥

-- Law: two answers of a command to an input have the same status and the same text.
abbrev pub OneAnswer : Type 0
OneAnswer = (command : Command) (input : List ℕ) (a b : Status) (s t : List ℕ)
    → IsAnswerTo command input a s → IsAnswerTo command input b t → (a ≡ b) × (s ≡ t)
