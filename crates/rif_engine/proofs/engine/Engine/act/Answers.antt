use Rattle.std.proofs.Common.{◌≡◌, ◌∙◌, ◌-◌, ap, sym, subst, length, slice_get, List, Option, Some}
use Rattle.session_states.specs.declared.turn.Act.{Act}
use Rattle.session_states.specs.declared.turn.Turn.{Turn}
use Rattle.prd_relation.specs.RuleSystem.{system_of}
use Rattle.prd_relation.specs.Turns.{ending_act, outcome_after, outcome_of}
use Rattle.prd_relation.specs.Runs.{run_of}
use Rattle.rif_engine.specs.Keeping.{done_in, run_in, Keeps}
use Rattle.rif_engine.specs.SoFar.{last_act_of, session_before, session_now, settled_run}
use Rattle.rif_engine.specs.Standing.{Settles, Shows}
use Rattle.rif_engine.proofs.EngineLemmas.{act_settled, owed_batch, owed_session}
use Rattle.rif_engine.proofs.engine.Engine.act.Goals as goal

settled : (c : goal.After-settle_last) → Keeps c.self.inside.doc c.settle_last.new.turns.items c.settle.new.self
    × (run_in c.self.inside.doc c.settle_last.new.turns.items ≡ settled_run c.args.self.now)
    × (last_act_of (run_in c.self.inside.doc c.settle_last.new.turns.items) ≡ Some c.in_ok-settled.settled.act)
settled c =
    let doc = c.self.inside.doc in
    let system = system_of doc in
    let turns = c.self.inside.turns.items in
    let before = run_in doc turns in
    let batch = c.in-Some.turn.now.batch in
    let at : slice_get turns (length turns - 1) ≡ Some c.in-Some.turn.now =
    sym (c.in-Some.ensures.value ∙ ap (λ (ts : List Turn). slice_get ts (length ts - 1)) c.as_slice.ensures.value) in
    let owed = owed_batch c.args.self.now doc turns c.self.inside.standing c.in-Some.turn.now c.self.view_is
    c.self.invariant c.requires at in
    let s = owed_session before batch (ap (λ r. r.owed) c.self.view_is ∙ owed.0) in
    let end : c.ending-end.result ≡ ending_act batch =
    c.ending-end.ensures ∙ ap ending_act c.entries.ensures.entries in
    let outcome : outcome_after system c.ending-end.result (session_now before)
    ≡ outcome_of system (session_before before) batch =
    ap (λ (e : Option Act). outcome_after system e (session_now before)) end
    ∙ ap (outcome_after system (ending_act batch)) s in
    act_settled c.args.self.now doc turns c.settle_last.new.turns.items c.self.inside.standing c.settle.new.self
    c.in_ok-settled.settled batch c.self.view_is c.self.invariant owed.0
    (subst (Settles c.in_ok-settled.settled) outcome
    (c.in_ok-settled.ensures.settles (session_now before) c.self.invariant.shows))
    (subst (λ o. Shows system c.settle.new.self o.session) outcome
    (c.in_ok-settled.ensures.ok (session_now before) c.self.invariant.shows))
    (c.settle_last.ensures (run_of system (done_in turns)) batch owed.1)

pub invariant_of-self-2 : goal.invariant_of-self-2
invariant_of-self-2 c = (settled c).0

pub returns-clause-ok : goal.returns-clause-ok
returns-clause-ok c = (settled c).1

pub returns-clause-act : goal.returns-clause-act
returns-clause-act c = (settled c).2
