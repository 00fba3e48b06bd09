use Rattle.std.proofs.Common.{◌≡◌, ◌∙◌, ap, sym}
use Rattle.rif_engine.specs.SoFar.{settled_run}
use Rattle.rif_engine.proofs.ReplayLemmas.{empty_may_follow, fired_is, same_fired, with_turn}
use Rattle.rif_engine.proofs.replaying.make_turn.Goals as goal

made : (c : goal.After-eq) → c.act.new.self ≡ with_turn c.args.engine.now c.args.batch
made c = c.in_ok-act.ensures.ok ∙ ap settled_run c.in-Ok.ensures.ok

pub returns-clause-fired : goal.returns-clause-fired
returns-clause-fired c =
    same_fired c.in_ok-act.act c.eq.result c.eq.ensures
    ∙ fired_is c.args.engine.now c.act.new.self c.args.batch c.in_ok-act.act (made c) c.in_ok-act.ensures.act

pub returns-clause-next : goal.returns-clause-next
returns-clause-next c = λ fired.
    empty_may_follow c.a_firing_disposes_of_nothing.ensures c.args.engine.now c.act.new.self c.args.batch
    c.in_ok-act.act (made c) c.in_ok-act.ensures.act
    (sym (same_fired c.in_ok-act.act c.eq.result c.eq.ensures) ∙ fired)
