-- That batches may be the first ones of a run has one proof at most, as a fact that a struct keeps must. No public
-- clause cites this module.
-- Source: the project's own.
use denote.Struct.Props as logic
use Rattle.std.specs.Prelude.{Bool, false, List, [], ◌∷◌}
use Rattle.session_states.specs.declared.item.Entry.{Entry}
use Rattle.session_states.specs.Batches.{EndsLast, IsLawful, is_disposing}
use Rattle.prd_relation.specs.RuleSystem.{RuleSystem}
use Rattle.prd_relation.specs.Runs.{EmptyOnlyIfFired, fires}
use Rattle.prd_relation.specs.Turns.{Session, first_session, session_after}
use Rattle.rif_session.specs.Sessions.{AreFrontFrom, AreFrontOfRun}

EndsLast-prop : (entries : List Entry) → IsProp (EndsLast entries)
EndsLast-prop [] = Prim.hlevel logic.props
EndsLast-prop (entry ∷ []) = Prim.hlevel logic.props
EndsLast-prop (entry ∷ next ∷ entries) =
    let rest = EndsLast-prop (next ∷ entries) in Prim.hlevel (logic.props, rest)

IsLawful-prop : (entries : List Entry) → IsProp (IsLawful entries)
IsLawful-prop entries = let ends = EndsLast-prop entries in Prim.hlevel (logic.props, ends)

EmptyOnlyIfFired-prop : (fired : Bool) (batch : List Entry) → IsProp (EmptyOnlyIfFired fired batch)
EmptyOnlyIfFired-prop fired [] = Prim.hlevel logic.props
EmptyOnlyIfFired-prop fired (entry ∷ batch) = Prim.hlevel logic.props

AreFrontFrom-prop : (system : RuleSystem) (session : Session) (fired disposed : Bool) (batches : List (List Entry))
    → IsProp (AreFrontFrom system session fired disposed batches)
AreFrontFrom-prop system session fired disposed [] = Prim.hlevel logic.props
AreFrontFrom-prop system session fired disposed (batch ∷ batches) =
    let lawful = IsLawful-prop batch in
    let empty = EmptyOnlyIfFired-prop fired batch in
    let rest = AreFrontFrom-prop system (session_after system session batch) (fires system session batch)
    (is_disposing batch) batches in
    Prim.hlevel (logic.props, lawful, empty, rest)

pub AreFrontOfRun-prop : (system : RuleSystem) (batches : List (List Entry)) → IsProp (AreFrontOfRun system batches)
AreFrontOfRun-prop system batches = AreFrontFrom-prop system first_session false false batches
