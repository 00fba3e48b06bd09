-- What a replay has done so far. No public clause cites this module.
--     IsReplayed given left fired run    of the given batches these are left, the last turn fired or not, and the run
--                                        so far is a replay of the others
--     budget_of state                    how many firings are left
use Rattle.std.specs.Prelude.{◌≡◌, ℕ, Bool, true, List, ◌++◌, None}
use Rattle.session_states.specs.declared.item.Entry.{Entry}
use Rattle.session_states.specs.declared.state.State.{State}
use Rattle.session_states.specs.declared.state.State.TheVariants.{Idle, Firing, UntilHalt, Disposed}
use Rattle.session_states.specs.Batches.{AreLawfulBehind}
use Rattle.prd_relation.specs.RuleSystem.{system_of}
use Rattle.prd_relation.specs.Runs.{IsReplay, IsReplayFrom}
use Rattle.rif_engine.specs.SoFar.{RunSoFar, session_before}

pub record IsReplayed (given left : List (List Entry)) (fired : Bool) (run : RunSoFar) : Type 0 where
  pub settled : run.owed ≡ None
  pub disposed : Bool
  pub lawful : AreLawfulBehind disposed left
  pub tells : (session_before run).state ≡ Disposed → disposed ≡ true
  pub goes_on : (more : List (List Entry)) → IsReplayFrom (system_of run.doc) (session_before run) fired left more
      → IsReplay (system_of run.doc) given (run.done ++ more)

abbrev pub budget_of : State → ℕ
budget_of Idle = 0
budget_of (Firing left) = left
budget_of (UntilHalt left) = left
budget_of Disposed = 0
