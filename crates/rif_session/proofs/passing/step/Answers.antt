use Rattle.std.proofs.Common.{◌≡◌, ◌∙◌, inl, refl, rules, sym, ap, IsTrue}
use Rattle.std.specs.Option.{is_some}
use Rattle.session_states.specs.declared.state.State.TheVariants.{Disposed}
use Rattle.session_states.specs.OpenBatches.{BatchWithRoom}
use Rattle.rif_engine.specs.SoFar.{RunSoFar, session_now}
use Rattle.rif_session.specs.Sessions.{batches_so_far}
use Rattle.rif_session.proofs.CoreLemmas.{not_none}
use Rattle.rif_session.proofs.FrontLemmas.{settled_batches}
use Rattle.rif_session.proofs.PassLemmas.{disposed_rests, none_held, not_some, owed_advances, passes_same}
use Rattle.rif_session.proofs.passing.step.Goals as goal

pub returns-in_err-settle-clause-passes : goal.returns-in_err-settle-clause-passes
returns-in_err-settle-clause-passes g c =
    let core = c.args.core.now in
    let same = c.in_err-settle.ensures.same in
    passes_same core.engine c.settle.new.self.engine core.held.entries (g.L.Propagation.taken core.taker)
    (g.L.Propagation.taken c.settle.new.self.taker) (g.L.Propagation.nones core.taker)
    (g.L.Propagation.nones c.settle.new.self.taker) (ap batches_so_far c.in_err-settle.ensures.err) same.0 same.1

pub returns-then-owes-clause-passes : goal.returns-then-owes-clause-passes
returns-then-owes-clause-passes g c =
    let core = c.args.core.now in
    let same = c.in_ok-settle.ensures.same in
    passes_same core.engine c.settle.new.self.engine core.held.entries (g.L.Propagation.taken core.taker)
    (g.L.Propagation.taken c.settle.new.self.taker) (g.L.Propagation.nones core.taker)
    (g.L.Propagation.nones c.settle.new.self.taker)
    (ap batches_so_far c.in_ok-settle.ensures.ok ∙ settled_batches core.engine) same.0 same.1

pub returns-then-owes-clause-fired : goal.returns-then-owes-clause-fired
returns-then-owes-clause-fired g c = λ fired.
    let core = c.args.core.now in
    let same = c.in_ok-settle.ensures.same in
    owed_advances c.turns_stop_where_they_must.ensures core.engine c.settle.new.self.engine core.held.entries
    c.settle.new.self.held.entries (g.L.Propagation.taken core.taker) (g.L.Propagation.taken c.settle.new.self.taker)
    (g.L.Propagation.nones core.taker) (g.L.Propagation.nones c.settle.new.self.taker)
    (sym c.owes.ensures ∙ c.if-owes.true) c.in_ok-settle.ensures.ok
    (ap (λ (b : BatchWithRoom). b.entries) c.in_ok-settle.ensures.held) same.0 same.1
    (cc (c.in_ok-settle.ensures.act, fired))

pub returns-then-owes-clause-acted : goal.returns-then-owes-clause-acted
returns-then-owes-clause-acted g c =
    let core = c.args.core.now in
    let owes : IsTrue (is_some core.engine.owed) = sym c.owes.ensures ∙ c.if-owes.true in (
      ap (λ (r : RunSoFar). r.owed) c.in_ok-settle.ensures.ok,
      c.in_ok-settle.ensures.act,
      ap (λ (b : BatchWithRoom). b.entries) c.in_ok-settle.ensures.held
          ∙ none_held _ core.engine.owed core.held.entries owes core.free,
      c.in_ok-settle.ensures.shut,
      inl (not_none core.engine.owed owes),
    )

pub returns-then-eq-clause-passes : goal.returns-then-eq-clause-passes
returns-then-eq-clause-passes g c =
    let core = c.args.core.now in
    passes_same core.engine core.engine core.held.entries (g.L.Propagation.taken core.taker)
    (g.L.Propagation.taken core.taker) (g.L.Propagation.nones core.taker) (g.L.Propagation.nones core.taker)
    refl refl refl

pub returns-then-eq-clause-nothing : goal.returns-then-eq-clause-nothing
returns-then-eq-clause-nothing g c = λ is.
    let core = c.args.core.now in
    let none = not_some core.engine.owed (sym c.owes.ensures ∙ c.if-owes.false) in
    let disposed : c.state.result ≡ Disposed = search rules in
    let now : (session_now core.engine).state ≡ Disposed = sym c.state.ensures ∙ disposed in (
      none,
      disposed_rests c.a_firing_disposes_of_nothing.ensures core.engine none now,
      refl,
      refl,
      refl,
      inl (now, refl),
    )
