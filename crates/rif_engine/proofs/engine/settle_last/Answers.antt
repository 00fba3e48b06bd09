use Rattle.std.proofs.Common.{◌∙◌, ◌++◌, ◌∷◌, [], ap, List}
use Rattle.session_states.specs.declared.item.Entry.{Entry}
use Rattle.session_states.specs.declared.turn.Turn.{Turn}
use Rattle.rif_engine.specs.Keeping.{settled_turn}
use Rattle.rif_engine.proofs.EngineLemmas.{index_last, set_last}
use Rattle.rif_engine.proofs.engine.settle_last.Goals as goal

pub returns-in-Some : goal.returns-in-Some
returns-in-Some c = λ before batch is.
    let turns = c.args.turns.now in
    let last = c.in-Some.ensures.value
    ∙ index_last before turns.items _ c.in-Some.turn.now turns.len is turns.ok.0 in
    set_last before turns.items _ _ turns.len is turns.ok.0
    ∙ ap (λ (b : List Entry). before ++ settled_turn b c.args.settled ∷ []) (ap (λ (t : Turn). t.batch) last)
