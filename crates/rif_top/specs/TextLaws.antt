-- What the text of a run determines.
--     TextFixesRun    law: two runs of a job that an input is, which have the same text, and in which the clients'
--                     entries follow their scripts, have the same batches and the same entries left
-- Source: the project's own (docs/FORMATS.md, "The trace").
use Rattle.std.specs.Prelude.{◌≡◌, ℕ, List}
use Rattle.session_states.specs.declared.item.Entry.{Entry}
use Rattle.session_states.specs.Batches.{joined}
use Rattle.rif_script.specs.declared.job.Job.{Job}
use Rattle.rif_script.specs.Jobs.{IsJob}
use Rattle.rif_script.specs.TraceLaws.{FollowsScripts}
use Rattle.rif_top.specs.Runs.{text_of_run}

abbrev pub TextFixesRun : Type 0
TextFixesRun =
    (input : List ℕ) (job : Job) (bs cs : List (List Entry)) (left right : List Entry) →
    IsJob input job → FollowsScripts job (joined bs left) → FollowsScripts job (joined cs right) →
    text_of_run job bs left ≡ text_of_run job cs right → (bs ≡ cs) × (left ≡ right)
