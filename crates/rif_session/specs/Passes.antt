-- What a pass does to the core that it is lent.
--     Passes ..             between two moments of a pass, or over all of it, whatever it answers: the batches before
--                           stand, the entries that are taken come to those taken, the batches that it adds are few,
--                           and those of them that more entries could stand in are at most as many as the times that
--                           the taker found nothing
--     IsIdle run held       no act is owed, the last one isn't Fired, and no entry is held
--     IsBusy run held t t'  there is something to do: an act is owed, or the session isn't disposed, and the last act
--                           is Fired, or an entry was held, or one was taken
--     IfActed rest P        where an act ended the pass, it does so
-- Source: the project's own (docs/PROFILE.md, "Turns").
use Rattle.std.specs.Prelude.{◌≡◌, ◌≢◌, ◌⊎◌, ℕ, ◌+◌, ◌≤◌, List, [], ◌++◌, length, Some, None}
use Rattle.session_states.specs.declared.item.Entry.{Entry}
use Rattle.session_states.specs.declared.state.State.TheVariants.{Disposed}
use Rattle.session_states.specs.declared.turn.Act.{Act}
use Rattle.session_states.specs.declared.turn.Act.TheVariants.{Fired}
use Rattle.rif_engine.specs.SoFar.{RunSoFar, last_act_of, session_now}
use Rattle.rif_session.specs.declared.passing.Rest.{Rest}
use Rattle.rif_session.specs.declared.passing.Rest.TheVariants.{Nothing, Acted}
use Rattle.rif_session.specs.Budgets.{budget_left, budgets_of, short_batches}
use Rattle.rif_session.specs.Sessions.{batches_so_far}

-- before and after: the engine's run, the entries held before, those taken, and how often the taker found nothing
pub record Passes (run run' : RunSoFar) (held taken taken' : List Entry) (nones nones' : ℕ) : Type 0 where
  pub more : List (List Entry)
  pub batches : batches_so_far run' ≡ batches_so_far run ++ more
  pub new : List Entry
  pub takes : taken' ≡ taken ++ new
  pub few : length more ≤ budget_left (session_now run).state + budgets_of (held ++ new) + 1
  pub short : nones + short_batches more ≤ nones'

pub record IsIdle (run : RunSoFar) (held : List Entry) : Type 0 where
  pub settled : run.owed ≡ None
  pub rests : last_act_of run ≢ Some Fired
  pub none_held : held ≡ []

abbrev pub IsBusy : RunSoFar → List Entry → List Entry → List Entry → Type 0
IsBusy run held taken taken' =
    (run.owed ≢ None) ⊎ (((session_now run).state ≢ Disposed)
    × ((last_act_of run ≡ Some Fired) ⊎ (held ≢ []) ⊎ (taken' ≢ taken)))

abbrev pub IfActed : Rest → (Act → Type 0) → Type 0
IfActed Nothing P = Unit {0}
IfActed (Acted act) P = P act
