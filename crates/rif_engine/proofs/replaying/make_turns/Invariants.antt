use Rattle.std.proofs.Common.{◌≡◌, ◌+◌, cond, true, false, List, [], ◌∷◌}
use Rattle.session_states.specs.declared.item.Entry.{Entry}
use Rattle.rif_engine.specs.Replaying.{IsReplayed, budget_of}
use Rattle.rif_engine.specs.SoFar.{MayTake, session_before}
use Rattle.rif_engine.proofs.replaying.make_turns.Given as goal

abbrev pub invariant-loop-fired : goal.invariant-loop-fired
invariant-loop-fired l =
    (l.fired ≡ true → MayTake l.engine [])
    × (l.engine.doc ≡ l.fn.engine.doc)
    × ((given left : List (List Entry)) → IsReplayed given (l.fn.batch ∷ left) false l.fn.engine
    → IsReplayed given left l.fired l.engine)

abbrev pub decreases-loop-fired : goal.decreases-loop-fired
decreases-loop-fired l = cond l.fired (budget_of (session_before l.engine).state + 1) 0
