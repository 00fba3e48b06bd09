use Rattle.std.proofs.Common.{◌≡◌, ◌∙◌, inl, inr, refl, rules, Some, ap}
use Rattle.session_states.specs.declared.turn.Act.{Act}
use Rattle.session_states.specs.declared.turn.Act.TheVariants.{Fired}
use Rattle.rif_session.proofs.BudgetLemmas.{advances_on, advances_same, passes_on}
use Rattle.rif_session.proofs.PassLemmas.{busy_on, was_busy}
use Rattle.rif_session.proofs.passing.pass.Goals as goal

pub loop-init : goal.loop-init
loop-init g c =
    let core = c.args.core.now in record {
      advances = advances_same core.engine core.held.entries (g.L.Propagation.taken core.taker)
          (g.L.Propagation.nones core.taker);
      begun = inl (record { run_same = refl; held_same = refl; taken_same = refl; nones_same = refl });
      more = tt;
      ends = tt;
    }

pub returns-in_err-act-clause-passes : goal.returns-in_err-act-clause-passes
returns-in_err-act-clause-passes g c =
    let old = c.args.core.now in
    let core = c.loop.core in
    let new = c.step.new.core in
    passes_on old.engine core.engine new.engine old.held.entries core.held.entries (g.L.Propagation.taken old.taker)
    (g.L.Propagation.taken core.taker) (g.L.Propagation.taken new.taker) (g.L.Propagation.nones old.taker)
    (g.L.Propagation.nones core.taker) (g.L.Propagation.nones new.taker) c.loop.invariant.advances
    c.in_err-act.ensures.passes

pub returns-then-ne-clause-passes : goal.returns-then-ne-clause-passes
returns-then-ne-clause-passes g c =
    let old = c.args.core.now in
    let core = c.loop.core in
    let new = c.step.new.core in
    passes_on old.engine core.engine new.engine old.held.entries core.held.entries (g.L.Propagation.taken old.taker)
    (g.L.Propagation.taken core.taker) (g.L.Propagation.taken new.taker) (g.L.Propagation.nones old.taker)
    (g.L.Propagation.nones core.taker) (g.L.Propagation.nones new.taker) c.loop.invariant.advances
    c.in_ok-act.ensures.passes

pub returns-then-ne-clause-something : goal.returns-then-ne-clause-something
returns-then-ne-clause-something g c = λ acts.
    let old = c.args.core.now in
    let core = c.loop.core in
    let new = c.step.new.core in
    let acted = rw c.in-Some-2.is at c.in_ok-act.ensures.acted in
    was_busy old.engine old.held.entries (g.L.Propagation.taken old.taker) (g.L.Propagation.taken new.taker)
    (busy_on old.engine core.engine old.held.entries core.held.entries (g.L.Propagation.taken old.taker)
    (g.L.Propagation.taken core.taker) (g.L.Propagation.taken new.taker) (g.L.Propagation.nones old.taker)
    (g.L.Propagation.nones core.taker) c.in_ok-act.ensures.passes.new c.loop.invariant.begun acted.4
    c.in_ok-act.ensures.passes.takes)

pub loop-preserved : goal.loop-preserved
loop-preserved g c =
    let old = c.args.core.now in
    let core = c.loop.core in
    let new = c.step.new.core in
    let fired : c.in-Some-2.act ≡ Fired = search rules in
    let acted = rw c.in-Some-2.is at c.in_ok-act.ensures.acted in record {
      advances = advances_on old.engine core.engine new.engine old.held.entries core.held.entries new.held.entries
          (g.L.Propagation.taken old.taker) (g.L.Propagation.taken core.taker) (g.L.Propagation.taken new.taker)
          (g.L.Propagation.nones old.taker) (g.L.Propagation.nones core.taker) (g.L.Propagation.nones new.taker)
          c.loop.invariant.advances (c.in_ok-act.ensures.fired (cc (c.in-Some-2.is, fired)));
      begun = inr (
        acted.1 ∙ ap (λ (a : Act). Some a) fired,
        busy_on old.engine core.engine old.held.entries core.held.entries (g.L.Propagation.taken old.taker)
            (g.L.Propagation.taken core.taker) (g.L.Propagation.taken new.taker) (g.L.Propagation.nones old.taker)
            (g.L.Propagation.nones core.taker) c.in_ok-act.ensures.passes.new c.loop.invariant.begun acted.4
            c.in_ok-act.ensures.passes.takes,
      );
      more = tt;
      ends = tt;
    }
