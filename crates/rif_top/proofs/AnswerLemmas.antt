-- An input and a command have one answer.
use Rattle.std.proofs.Common.{◌≡◌, ◌∙◌, ℕ, List, refl, ap, sym, subst}
use Rattle.session_states.specs.declared.item.Entry.{Entry}
use Rattle.prd_relation.specs.Laws.{IsReplayOne}
use Rattle.prd_relation.specs.RuleSystem.{system_of}
use Rattle.prd_writing.specs.Canonical.{canonical_text}
use Rattle.rif_script.specs.declared.job.Job.{Job}
use Rattle.rif_script.specs.Cutting.{batches_of_entries, left_of_entries, script_entries}
use Rattle.rif_script.specs.Jobs.{OneOutcome}
use Rattle.rif_script.specs.RefusalLine.{refusal_line}
use Rattle.rif_top.specs.declared.command.Command.{Command}
use Rattle.rif_top.specs.declared.command.Command.TheVariants.{Check, Run}
use Rattle.rif_top.specs.declared.status.Status.TheVariants.{Done, Refused, Usage, ReadFault, WriteFault, OutOfMemory}
use Rattle.rif_top.specs.Answer.{IsTextFor, OneAnswer}
use Rattle.rif_top.specs.Runs.{IsRunOf, text_of_run}
use Rattle.rif_top.proofs.CompletenessLemmas.{job_made}

-- a job's run has one text
one_run : (one : IsReplayOne) (job : Job) (s t : List ℕ) → IsRunOf job s → IsRunOf job t → s ≡ t
one_run one job s t first second =
    let given = batches_of_entries (script_entries job) in
    let left = left_of_entries (script_entries job) in
    let same = one (system_of job.doc) given first.batches second.batches first.replayed second.replayed in
    first.text_is ∙ ap (λ (bs : List (List Entry)). text_of_run job bs left) same ∙ sym second.text_is

one_text : (jobs : OneOutcome) (one : IsReplayOne) (command : Command) (input s t : List ℕ) →
    IsTextFor command input s → IsTextFor command input t → s ≡ t
one_text jobs one Check input s t first second =
    first.3 ∙ ap canonical_text (jobs.one_job input first.0 second.0 first.1 second.1 first.2 second.2).0
    ∙ sym second.3
one_text jobs one Run input s t first second =
    let same = (jobs.one_job input first.1.0 second.1.0 first.0 second.0 first.1.1 second.1.1).1 in
    one_run one second.0 s t (subst (λ (job : Job). IsRunOf job s) same first.2) second.2

pub one_answer : OneOutcome → IsReplayOne → OneAnswer
one_answer jobs one command input Done Done s t first second =
    (refl, one_text jobs one command input s t first second)
one_answer jobs one command input Refused Refused s t first second =
    (refl, first.2 ∙ ap refusal_line (jobs.one_refusal input first.0 second.0 first.1 second.1) ∙ sym second.2)
one_answer jobs one command input Done Refused s t first second =
    let made = job_made command input s first in absurd (jobs.not_both input made.0 second.0 made.1 second.1)
one_answer jobs one command input Refused Done s t first second =
    let made = job_made command input t second in absurd (jobs.not_both input made.0 first.0 made.1 first.1)
one_answer jobs one command input Done Usage s t first second = absurd second
one_answer jobs one command input Done ReadFault s t first second = absurd second
one_answer jobs one command input Done WriteFault s t first second = absurd second
one_answer jobs one command input Done OutOfMemory s t first second = absurd second
one_answer jobs one command input Refused Usage s t first second = absurd second
one_answer jobs one command input Refused ReadFault s t first second = absurd second
one_answer jobs one command input Refused WriteFault s t first second = absurd second
one_answer jobs one command input Refused OutOfMemory s t first second = absurd second
one_answer jobs one command input Usage b s t first second = absurd first
one_answer jobs one command input ReadFault b s t first second = absurd first
one_answer jobs one command input WriteFault b s t first second = absurd first
one_answer jobs one command input OutOfMemory b s t first second = absurd first
