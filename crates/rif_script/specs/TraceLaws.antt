-- What the text of a run determines.
--     turns_behind turn_of before bs     turns of batches, each a function of the batches up to it
--     FollowsScripts job es              each client's entries are the first items of its script, in order
--     SameTextSameRun                    two runs of a job with the same text have the same batches and the same
--                                        entries left
-- Source: the project's own (docs/FORMATS.md, "The trace").
use Rattle.std.specs.Prelude.{◌≡◌, ◌<◌, ℕ, List, [], ◌∷◌, ◌++◌, IsSome, length}
use Rattle.session_states.specs.declared.item.Item.{Item}
use Rattle.session_states.specs.declared.item.Entry.{Entry}
use Rattle.session_states.specs.declared.turn.Turn.{Turn}
use Rattle.rif_script.specs.declared.job.Job.{Job}
use Rattle.session_states.specs.Batches.{joined}
use Rattle.session_states.specs.Clients.{CountUp, items_of, ranks_of, script_of}
use Rattle.rif_script.specs.JobClients.{HasClientNames}
use Rattle.rif_script.specs.Trace.{run_text}

-- the entries are of the job's clients
abbrev pub AreKnown : Job → List Entry → Type 0
AreKnown job [] = Unit {0}
AreKnown job (entry ∷ entries) = (entry.client < length job.names) × AreKnown job entries

-- each client's items are the first ones of its script, and its ranks are 0, 1, 2 and so on
pub record FollowsScripts (job : Job) (entries : List Entry) : Type 0 where
  pub known : AreKnown job entries
  pub items : (client : ℕ) → (more : List Item) × (items_of client entries ++ more ≡ script_of client job.items)
  pub ranks : (client : ℕ) → CountUp 0 (ranks_of client entries)

-- the turns of batches that stand behind others
abbrev pub turns_behind : (List (List Entry) → List Entry → Turn) → List (List Entry) → List (List Entry) → List Turn
turns_behind turn_of before [] = []
turns_behind turn_of before (batch ∷ batches) =
    turn_of before batch ∷ turns_behind turn_of (before ++ batch ∷ []) batches

-- each turn takes its batch, and has its act
pub record AreTurns (turn_of : List (List Entry) → List Entry → Turn) : Type 0 where
  pub takes : (before : List (List Entry)) (batch : List Entry) → (turn_of before batch).batch ≡ batch
  pub settled : (before : List (List Entry)) (batch : List Entry) → IsSome (turn_of before batch).act

abbrev pub SameTextSameRun : Type 0
SameTextSameRun =
    (job : Job) (turn_of : List (List Entry) → List Entry → Turn) (bs cs : List (List Entry))
    (left right : List Entry) (m n : ℕ) →
    HasClientNames job → AreTurns turn_of → FollowsScripts job (joined bs left) →
    FollowsScripts job (joined cs right) →
    run_text job (turns_behind turn_of [] bs) left m ≡ run_text job (turns_behind turn_of [] cs) right n →
    (bs ≡ cs) × (left ≡ right)
