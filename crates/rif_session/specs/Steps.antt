-- The steps of a pass. No public clause cites this module.
--     Fills ..         entries are taken, and held behind those that were
--     Advances ..      between two moments of a pass, while each turn fires: as Passes, and each turn and each budget
--                      that is left was paid from a budget
--     IsSettled run    no act is owed, the last one isn't Fired, and the batches are the first ones of a run
--     HasBegun ..      since a pass began nothing was done, or the last turn fired and there was something to do
-- Source: the project's own (docs/PROFILE.md, "Turns").
use Rattle.std.specs.Prelude.{◌≡◌, ◌≢◌, ◌⊎◌, ℕ, ◌+◌, ◌<◌, ◌≤◌, List, [], ◌++◌, length, Some, None}
use Rattle.session_states.specs.declared.item.Entry.{Entry}
use Rattle.session_states.specs.declared.state.State.TheVariants.{Disposed}
use Rattle.session_states.specs.declared.turn.Act.TheVariants.{Fired}
use Rattle.prd_relation.specs.RuleSystem.{system_of}
use Rattle.rif_engine.specs.SoFar.{RunSoFar, last_act_of, session_now}
use Rattle.rif_session.specs.Budgets.{budget_left, budgets_of, short_batches}
use Rattle.rif_session.specs.Sessions.{AreFrontOfRun, batches_so_far}

pub record Fills (held held' taken taken' : List Entry) (nones nones' : ℕ) : Type 0 where
  pub new : List Entry
  pub holds : held' ≡ held ++ new
  pub takes : taken' ≡ taken ++ new
  pub rises : nones ≤ nones'

pub record Advances (run run' : RunSoFar) (held held' taken taken' : List Entry) (nones nones' : ℕ) : Type 0 where
  pub more : List (List Entry)
  pub batches : batches_so_far run' ≡ batches_so_far run ++ more
  pub new : List Entry
  pub takes : taken' ≡ taken ++ new
  pub paid : budget_left (session_now run').state + budgets_of held' + length more
      ≤ budget_left (session_now run).state + budgets_of held + budgets_of new
  pub short : nones + short_batches more ≤ nones'

-- as IsBusy, by how many entries were taken
abbrev pub WasBusy : RunSoFar → List Entry → List Entry → List Entry → Type 0
WasBusy run held taken taken' =
    (run.owed ≢ None) ⊎ (((session_now run).state ≢ Disposed)
    × ((last_act_of run ≡ Some Fired) ⊎ (held ≢ []) ⊎ (length taken < length taken')))

-- nothing was done
pub record IsSame (run run' : RunSoFar) (held held' taken taken' : List Entry) (nones nones' : ℕ) : Type 0 where
  pub run_same : run' ≡ run
  pub held_same : held' ≡ held
  pub taken_same : taken' ≡ taken
  pub nones_same : nones' ≡ nones

abbrev pub HasBegun : RunSoFar → RunSoFar → List Entry → List Entry → List Entry → List Entry → ℕ → ℕ → Type 0
HasBegun run run' held held' taken taken' nones nones' =
    IsSame run run' held held' taken taken' nones nones'
    ⊎ ((last_act_of run' ≡ Some Fired) × WasBusy run held taken taken')

-- between two turns of a session that rests
pub record IsSettled (run : RunSoFar) : Type 0 where
  pub settled : run.owed ≡ None
  pub rests : last_act_of run ≢ Some Fired
  pub front : AreFrontOfRun (system_of run.doc) run.done
