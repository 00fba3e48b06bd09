-- A session that many clients feed.
--     batches_so_far run       the batches that have entered a run: those that are done, and the one whose act is
--                              owed
--     ends_disposed batches    the last entry of all of them is a Dispose
--     AreFrontOfRun sys bs     the batches may be the first ones of a run: all that is asked of those of a run, but
--                              that the last turn doesn't fire
-- Source: the project's own (docs/PROFILE.md, "Batches" and "Turns").
use Rattle.std.specs.Prelude.{◌≡◌, Bool, false, List, [], ◌∷◌, ◌++◌}
use Rattle.session_states.specs.declared.item.Entry.{Entry}
use Rattle.session_states.specs.Batches.{IsLawful, ends_in, is_dispose, is_disposing, joined}
use Rattle.prd_relation.specs.RuleSystem.{RuleSystem}
use Rattle.prd_relation.specs.Runs.{EmptyOnlyIfFired, fires}
use Rattle.prd_relation.specs.Turns.{Session, first_session, session_after}
use Rattle.rif_engine.specs.SoFar.{RunSoFar, owed_batches}

abbrev pub batches_so_far : RunSoFar → List (List Entry)
batches_so_far run = run.done ++ owed_batches run.owed

abbrev pub ends_disposed : List (List Entry) → Bool
ends_disposed batches = ends_in is_dispose (joined batches [])

-- the same from a session on, after a turn that fired or not and disposed or not
abbrev pub AreFrontFrom : RuleSystem → Session → Bool → Bool → List (List Entry) → Type 0
AreFrontFrom system session fired disposed [] = Unit {0}
AreFrontFrom system session fired disposed (batch ∷ batches) =
    IsLawful batch × (disposed ≡ false) × EmptyOnlyIfFired fired batch
    × AreFrontFrom system (session_after system session batch) (fires system session batch)
    (is_disposing batch) batches

abbrev pub AreFrontOfRun : RuleSystem → List (List Entry) → Type 0
AreFrontOfRun system batches = AreFrontFrom system first_session false false batches
