-- Runs: turn after turn.
--     turns_from system s bs        the turns of some batches from a session on
--     session_at_end system s bs    the session after them
--     run_of system bs              the turns of some batches from an idle session with no facts
--     AreLawful system bs           the batches may be those of a run
--     IsReplay system given all     all are the given batches in their order, with an empty batch after each firing
-- IsReplay says of the given batches neither that none is empty nor that none follows one that disposes: both come
-- from the cut of a script (docs/PROFILE.md, "Replay").
-- Source: RIF-PRD, "Operational semantics of a production rule system"; that batches of clients stand between
-- firings is the project's own (docs/PROFILE.md, "Turns").
use Rattle.std.specs.Prelude.{◌≡◌, Bool, true, false, List, [], ◌∷◌}
use Rattle.session_states.specs.declared.item.Entry.{Entry}
use Rattle.session_states.specs.declared.turn.Act.{Act}
use Rattle.session_states.specs.declared.turn.Act.TheVariants.{Idle as IdleAct, Halted, Disposed as DisposedAct}
use Rattle.session_states.specs.declared.turn.Act.TheVariants.{Fired, StoppedQuiet, StoppedLimit, Resting}
use Rattle.session_states.specs.declared.turn.Turn.{Turn}
use Rattle.session_states.specs.Batches.{IsLawful, is_disposing}
use Rattle.prd_relation.specs.RuleSystem.{RuleSystem}
use Rattle.prd_relation.specs.Turns.{Session, first_session, outcome_of, turn_of, session_after}

abbrev pub turns_from : RuleSystem → Session → List (List Entry) → List Turn
turns_from system session [] = []
turns_from system session (batch ∷ batches) =
    turn_of system session batch ∷ turns_from system (session_after system session batch) batches

abbrev pub session_at_end : RuleSystem → Session → List (List Entry) → Session
session_at_end system session [] = session
session_at_end system session (batch ∷ batches) = session_at_end system (session_after system session batch) batches

abbrev pub run_of : RuleSystem → List (List Entry) → List Turn
run_of system batches = turns_from system first_session batches

abbrev pub is_fired : Act → Bool
is_fired IdleAct = false
is_fired Halted = false
is_fired DisposedAct = false
is_fired Fired = true
is_fired StoppedQuiet = false
is_fired StoppedLimit = false
is_fired Resting = false

-- whether the turn of a batch fires
abbrev pub fires : RuleSystem → Session → List Entry → Bool
fires system session batch = is_fired (outcome_of system session batch).act

-- a batch that is empty stands only straight after a firing
abbrev pub EmptyOnlyIfFired : Bool → List Entry → Type 0
EmptyOnlyIfFired fired [] = fired ≡ true
EmptyOnlyIfFired fired (entry ∷ entries) = Unit {0}

-- from a session on, after a turn that fired or not and disposed or not: each batch is lawful, an empty one stands
-- only straight after a firing, none follows one that disposes, and the last turn doesn't fire
abbrev pub AreLawfulFrom : RuleSystem → Session → Bool → Bool → List (List Entry) → Type 0
AreLawfulFrom system session fired disposed [] = fired ≡ false
AreLawfulFrom system session fired disposed (batch ∷ batches) =
    IsLawful batch × (disposed ≡ false) × EmptyOnlyIfFired fired batch
    × AreLawfulFrom system (session_after system session batch) (fires system session batch)
    (is_disposing batch) batches

abbrev pub AreLawful : RuleSystem → List (List Entry) → Type 0
AreLawful system batches = AreLawfulFrom system first_session false false batches

-- the same from a session on, after a turn that fired or not
abbrev pub IsReplayFrom : RuleSystem → Session → Bool → List (List Entry) → List (List Entry) → Type 0
IsReplayFrom system session true given [] = ⊥
IsReplayFrom system session true given (batch ∷ all) =
    (batch ≡ []) × IsReplayFrom system (session_after system session batch) (fires system session batch) given all
IsReplayFrom system session false [] [] = Unit {0}
IsReplayFrom system session false [] (batch ∷ all) = ⊥
IsReplayFrom system session false (next ∷ given) [] = ⊥
IsReplayFrom system session false (next ∷ given) (batch ∷ all) =
    (batch ≡ next) × IsReplayFrom system (session_after system session batch) (fires system session batch) given all

abbrev pub IsReplay : RuleSystem → List (List Entry) → List (List Entry) → Type 0
IsReplay system given all = IsReplayFrom system first_session false given all
