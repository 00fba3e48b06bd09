-- What a run keeps of what its clients sent.
--     RunsKeepScripts    law: in the batches of the run of a job that an input is, and then in what is left of its
--                        script, stand each client's items, once and in order, with the ranks 0, 1, 2 and so on; and
--                        where something is left, the last of the batches' entries is a Dispose
-- Source: the project's own (docs/PROFILE.md, "Replay" and "Clients").
use Rattle.std.specs.Prelude.{◌≡◌, ◌≢◌, ℕ, true, List, []}
use Rattle.session_states.specs.declared.item.Entry.{Entry}
use Rattle.session_states.specs.Batches.{ends_in, is_dispose, joined}
use Rattle.session_states.specs.Clients.{items_of, script_of}
use Rattle.prd_relation.specs.RuleSystem.{system_of}
use Rattle.prd_relation.specs.Runs.{IsReplay}
use Rattle.rif_script.specs.declared.job.Job.{Job}
use Rattle.rif_script.specs.Cutting.{batches_of_entries, left_of_entries, script_entries}
use Rattle.rif_script.specs.Jobs.{IsJob}
use Rattle.rif_script.specs.TraceLaws.{FollowsScripts}

abbrev pub RunsKeepScripts : Type 0
RunsKeepScripts =
    (input : List ℕ) (job : Job) (batches : List (List Entry)) → IsJob input job
    → IsReplay (system_of job.doc) (batches_of_entries (script_entries job)) batches
    → let left = left_of_entries (script_entries job) in
    FollowsScripts job (joined batches left)
    × ((client : ℕ) → items_of client (joined batches left) ≡ script_of client job.items)
    × (left ≢ [] → ends_in is_dispose (joined batches []) ≡ true)
