-- The text of the run of a job.
--     text_of_run job bs left    the text of the run of these batches, with these entries left, and with the number
--                                of facts that its turns leave
--     IsRunOf job text           the text is that of the job's run
--     IsRunText input text       the text is that of the run of the job that an input is
-- Source: the project's own (docs/FORMATS.md, "Jobs" and "The trace"; docs/PROFILE.md, "Replay").
use Rattle.std.specs.Prelude.{◌≡◌, ℕ, List}
use Rattle.session_states.specs.declared.item.Entry.{Entry}
use Rattle.prd_relation.specs.FactsOfTurns.{fact_count_of}
use Rattle.prd_relation.specs.RuleSystem.{system_of}
use Rattle.prd_relation.specs.Runs.{AreLawful, IsReplay, run_of}
use Rattle.rif_script.specs.declared.job.Job.{Job}
use Rattle.rif_script.specs.Cutting.{script_entries, batches_of_entries, left_of_entries}
use Rattle.rif_script.specs.Jobs.{IsJob}
use Rattle.rif_script.specs.Trace.{run_text}

abbrev pub text_of_run : Job → List (List Entry) → List Entry → List ℕ
text_of_run job batches left =
    let turns = run_of (system_of job.doc) batches in
    run_text job turns left (fact_count_of turns)

-- the text is that of the job's run: of the batches of its script, with an empty one after each firing, which are
-- lawful batches of a run, and with what is left of the script
pub record IsRunOf (job : Job) (text : List ℕ) : Type 0 where
  pub batches : List (List Entry)
  pub replayed : IsReplay (system_of job.doc) (batches_of_entries (script_entries job)) batches
  pub lawful : AreLawful (system_of job.doc) batches
  pub text_is : text ≡ text_of_run job batches (left_of_entries (script_entries job))

-- the text is that of the run of the job that an input is
abbrev pub IsRunText : List ℕ → List ℕ → Type 0
IsRunText input text = (job : Job) × IsJob input job × IsRunOf job text
