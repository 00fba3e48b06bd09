-- A run as far as an engine has made it.
--     RunSoFar               a document, the batches whose turns are done, and the batch whose act is owed, where one is
--     session_before run     the session after the turns that are done
--     session_now run        the session now: while an act is owed, with the items of its batch taken
--     turns_of run           the turns: those of the run of the batches that are done, and behind them an unsettled one
--                            while an act is owed
--     settled_run run        the run with the act settled that is owed, where one is
--     last_act_of run        the act of the last turn, and None where there is no turn or an act is owed
--     MayTake run batch      the batch may enter: no act is owed, the session isn't disposed, and where the batch is
--                            empty, the last turn fired
-- Source: RIF-PRD, "Operational semantics of a production rule system"; batches and turns are the project's own
-- (docs/PROFILE.md, "Turns").
use Rattle.std.specs.Prelude.{◌≡◌, ◌≢◌, ◌-◌, List, [], ◌∷◌, ◌++◌, length, slice_get, Some, None}
use Rattle.std.specs.Option.{option_and_then}
use Rattle.std.specs.declared.option.Option.{Option}
use Rattle.safe_rules.specs.declared.safe_rule.SafeRule.{SafeRule}
use Rattle.session_states.specs.declared.item.Entry.{Entry}
use Rattle.session_states.specs.declared.state.State.TheVariants.{Disposed}
use Rattle.session_states.specs.declared.turn.Act.{Act}
use Rattle.session_states.specs.declared.turn.Act.TheVariants.{Fired}
use Rattle.session_states.specs.declared.turn.Effect.TheVariants.{None as NoEffect}
use Rattle.session_states.specs.declared.turn.Turn.{Turn}
use Rattle.prd_relation.specs.RuleSystem.{system_of}
use Rattle.prd_relation.specs.Runs.{run_of, session_at_end}
use Rattle.prd_relation.specs.Turns.{Session, first_session, session_with}

pub record RunSoFar : Type 0 where
  pub doc : List SafeRule
  pub done : List (List Entry)
  pub owed : Option (List Entry)

abbrev pub session_before : RunSoFar → Session
session_before run = session_at_end (system_of run.doc) first_session run.done

-- the session with the items of a batch taken, where there is one
abbrev pub session_with_owed : Session → Option (List Entry) → Session
session_with_owed session None = session
session_with_owed session (Some batch) = session_with session batch

abbrev pub session_now : RunSoFar → Session
session_now run = session_with_owed (session_before run) run.owed

-- the turn of a batch whose act is owed
abbrev pub unsettled_turns : Option (List Entry) → List Turn
unsettled_turns None = []
unsettled_turns (Some batch) = record { batch = batch; act = None; pick = None; effect = NoEffect } ∷ []

abbrev pub turns_of : RunSoFar → List Turn
turns_of run = run_of (system_of run.doc) run.done ++ unsettled_turns run.owed

abbrev pub last_act : List Turn → Option Act
last_act turns = option_and_then (λ turn. turn.act) (slice_get turns (length turns - 1))

abbrev pub last_act_of : RunSoFar → Option Act
last_act_of run = last_act (turns_of run)

pub record MayTake (run : RunSoFar) (batch : List Entry) : Type 0 where
  pub settled : run.owed ≡ None
  pub live : (session_before run).state ≢ Disposed
  pub follows : batch ≡ [] → last_act_of run ≡ Some Fired

-- the batch whose act is owed, as a list
abbrev pub owed_batches : Option (List Entry) → List (List Entry)
owed_batches None = []
owed_batches (Some batch) = batch ∷ []

abbrev pub settled_run : RunSoFar → RunSoFar
settled_run run = record { doc = run.doc; done = run.done ++ owed_batches run.owed; owed = None }
