use Rattle.std.proofs.Common.{◌≡◌, ◌∙◌, ◌-◌, ap, sym, length, slice_get, List, Some}
use Rattle.session_states.specs.declared.turn.Turn.{Turn}
use Rattle.rif_engine.proofs.EngineLemmas.{not_same, owes_is}
use Rattle.rif_engine.proofs.engine.Engine.owes.Goals as goal

pub returns-in-Some : goal.returns-in-Some
returns-in-Some c =
    let turns = c.self.inside.turns.items in
    let at : slice_get turns (length turns - 1) ≡ Some c.in-Some.turn.now =
    sym (c.in-Some.ensures.value ∙ ap (λ (ts : List Turn). slice_get ts (length ts - 1)) c.as_slice.ensures.value) in
    not_same _ _ _ c.is_none.ensures
    (owes_is c.args.self.now c.self.inside.doc turns c.self.inside.standing c.in-Some.turn.now c.self.view_is
    c.self.invariant at)
