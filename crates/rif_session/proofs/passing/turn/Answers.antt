use Rattle.std.proofs.Common.{◌≡◌, ◌≢◌, ◌⊎◌, ◌∙◌, ◌<◌, ℕ, List, [], Some, inl, inr, length, sym, ap, subst}
use Rattle.session_states.specs.declared.item.Entry.{Entry}
use Rattle.session_states.specs.declared.turn.Act.TheVariants.{Fired}
use Rattle.session_states.specs.OpenBatches.{BatchWithRoom, takes_more}
use Rattle.rif_engine.specs.SoFar.{RunSoFar, last_act_of, settled_run}
use Rattle.rif_session.specs.Steps.{Advances}
use Rattle.rif_session.proofs.PassLemmas.{held_or_taken, none_taken, turn_advances}
use Rattle.rif_session.proofs.passing.turn.Goals as goal

pub returns-then-not-may_enter-clause-nothing : goal.returns-then-not-may_enter-clause-nothing
returns-then-not-may_enter-clause-nothing g c = λ is.
    let core = c.args.core.now in
    let fill = c.in_ok-fill.ensures in
    let rests = c.may_enter.ensures.rests c.if-not-may_enter.true in
    let same = none_taken core.held.entries c.fill.new.self.held.entries (g.L.Propagation.taken core.taker)
    (g.L.Propagation.taken c.fill.new.self.taker) (g.L.Propagation.nones core.taker)
    (g.L.Propagation.nones c.fill.new.self.taker) fill.fills rests.1 in (
      λ last. rests.0 (ap last_act_of fill.engine ∙ last),
      fill.engine,
      rests.1 ∙ sym same.0,
      same.1,
      same.0,
      fill.short (ap takes_more rests.1),
    )

pub returns-clause-fired : goal.returns-clause-fired
returns-clause-fired g c = λ fired.
    let core = c.args.core.now in
    let filled = c.fill.new.self in
    let done = c.settle.new.self in
    let fill = c.in_ok-fill.ensures in
    let entered : done.engine ≡ settled_run (record core.engine { owed = Some filled.held.entries }) =
    c.in_ok-settle.ensures.ok
    ∙ ap settled_run (c.in_ok-enter.ensures.ok
    ∙ ap (λ (r : RunSoFar). record r { owed = Some filled.held.entries }) fill.engine) in
    let empty : done.held.entries ≡ [] =
    ap (λ (b : BatchWithRoom). b.entries) c.in_ok-settle.ensures.held ∙ c.in_ok-enter.ensures.none_held in
    let taken : g.L.Propagation.taken done.taker ≡ g.L.Propagation.taken filled.taker =
    c.in_ok-settle.ensures.same.0 ∙ ap g.L.Propagation.taken c.in_ok-enter.ensures.taker in
    let nones : g.L.Propagation.nones done.taker ≡ g.L.Propagation.nones filled.taker =
    c.in_ok-settle.ensures.same.1 ∙ ap g.L.Propagation.nones c.in_ok-enter.ensures.taker in
    subst (λ (es : List Entry). Advances core.engine done.engine core.held.entries done.held.entries
    (g.L.Propagation.taken core.taker) es (g.L.Propagation.nones core.taker) (g.L.Propagation.nones done.taker))
    (sym taken)
    (subst (λ (n : ℕ). Advances core.engine done.engine core.held.entries done.held.entries
    (g.L.Propagation.taken core.taker) (g.L.Propagation.taken filled.taker) (g.L.Propagation.nones core.taker) n)
    (sym nones)
    (turn_advances c.turns_stop_where_they_must.ensures core.engine done.engine core.held.entries filled.held.entries
    done.held.entries (g.L.Propagation.taken core.taker) (g.L.Propagation.taken filled.taker)
    (g.L.Propagation.nones core.taker) (g.L.Propagation.nones filled.taker) c.requires.settled fill.fills fill.short
    entered empty (cc (c.in_ok-settle.ensures.act, fired))))

pub returns-clause-acted : goal.returns-clause-acted
returns-clause-acted g c =
    let core = c.args.core.now in
    let filled = c.fill.new.self in
    let done = c.settle.new.self in
    let fill = c.in_ok-fill.ensures in
    let entered : done.engine ≡ settled_run (record core.engine { owed = Some filled.held.entries }) =
    c.in_ok-settle.ensures.ok
    ∙ ap settled_run (c.in_ok-enter.ensures.ok
    ∙ ap (λ (r : RunSoFar). record r { owed = Some filled.held.entries }) fill.engine) in
    let empty : done.held.entries ≡ [] =
    ap (λ (b : BatchWithRoom). b.entries) c.in_ok-settle.ensures.held ∙ c.in_ok-enter.ensures.none_held in
    let taken : g.L.Propagation.taken done.taker ≡ g.L.Propagation.taken filled.taker =
    c.in_ok-settle.ensures.same.0 ∙ ap g.L.Propagation.taken c.in_ok-enter.ensures.taker in
    let nones : g.L.Propagation.nones done.taker ≡ g.L.Propagation.nones filled.taker =
    c.in_ok-settle.ensures.same.1 ∙ ap g.L.Propagation.nones c.in_ok-enter.ensures.taker in
    let busy : (last_act_of core.engine ≡ Some Fired) ⊎ (core.held.entries ≢ [])
    ⊎ (length (g.L.Propagation.taken core.taker) < length (g.L.Propagation.taken done.taker)) =
    elim (c.may_enter.ensures.enters c.if-not-may_enter.false) [
      | inl last ↦ inl (sym (ap last_act_of fill.engine) ∙ last)
      | inr some ↦ inr (subst (λ (es : List Entry). (core.held.entries ≢ [])
          ⊎ (length (g.L.Propagation.taken core.taker) < length es)) (sym taken)
          (held_or_taken core.held.entries filled.held.entries (g.L.Propagation.taken core.taker)
          (g.L.Propagation.taken filled.taker) (g.L.Propagation.nones core.taker)
          (g.L.Propagation.nones filled.taker) fill.fills some))
    ] in (
      ap (λ (r : RunSoFar). r.owed) entered,
      c.in_ok-settle.ensures.act,
      empty,
      c.in_ok-settle.ensures.shut,
      inr (c.requires.live, busy),
    )
