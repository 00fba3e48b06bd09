use Rattle.std.proofs.Common.{◌≡◌, ◌∙◌, ◌++◌, ap, subst, List, Some}
use Rattle.session_states.specs.declared.item.Entry.{Entry}
use Rattle.session_states.specs.declared.turn.Turn.{Turn}
use Rattle.prd_relation.specs.RuleSystem.{system_of}
use Rattle.prd_relation.specs.Turns.{session_with}
use Rattle.rif_engine.specs.Keeping.{run_in, Keeps}
use Rattle.rif_engine.specs.SoFar.{session_now, unsettled_turns}
use Rattle.rif_engine.specs.Standing.{Shows}
use Rattle.rif_engine.proofs.EngineLemmas.{batch_taken}
use Rattle.rif_engine.proofs.engine.Engine.take_batch.Goals as goal

taken : (c : goal.After-push_unsettled) → Keeps c.self.inside.doc c.push_unsettled.new.turns.items c.take.new.self
    × (run_in c.self.inside.doc c.push_unsettled.new.turns.items
    ≡ record c.args.self.now { owed = Some c.args.batch })
taken c =
    let doc = c.self.inside.doc in
    let before = run_in doc c.self.inside.turns.items in
    batch_taken c.args.self.now doc c.self.inside.turns.items c.push_unsettled.new.turns.items c.self.inside.standing
    c.take.new.self c.args.batch c.self.view_is c.self.invariant c.requires
    (c.push_unsettled.ensures
    ∙ ap (λ (ts : List Turn). ts ++ unsettled_turns (Some c.args.batch)) c.reserve.ensures.items)
    (subst (λ (b : List Entry). Shows (system_of doc) c.take.new.self (session_with (session_now before) b))
    c.entries.ensures.entries (c.in-Ok.ensures.ok (session_now before) c.self.invariant.shows))

pub invariant_of-self-in-Ok : goal.invariant_of-self-in-Ok
invariant_of-self-in-Ok c = (taken c).0

pub returns-in-Ok-clause-ok : goal.returns-in-Ok-clause-ok
returns-in-Ok-clause-ok c = (taken c).1
