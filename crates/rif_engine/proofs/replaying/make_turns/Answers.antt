use Rattle.std.proofs.Common.{◌≡◌, ◌∙◌, ◌++◌, ◌<◌, ◌+◌, ap, cond, sym, subst, Bool, List, [], ◌∷◌}
use Rattle.session_states.specs.declared.item.Entry.{Entry}
use Rattle.prd_relation.specs.RuleSystem.{system_of}
use Rattle.prd_relation.specs.Runs.{fires}
use Rattle.rif_engine.specs.Replaying.{IsReplayed, budget_of}
use Rattle.rif_engine.specs.SoFar.{MayTake, RunSoFar, session_before}
use Rattle.rif_engine.proofs.ReplayLemmas.{firing_lowers, next_empty, next_given, turned, with_turn}
use Rattle.rif_engine.proofs.replaying.make_turns.Goals as goal

pub loop-fired-init : goal.loop-fired-init
loop-fired-init c =
    let run = c.args.engine.now in
    let new : c.make_turn.new.engine ≡ with_turn run c.args.batch =
    turned run c.make_turn.new.engine c.args.batch c.requires.settled c.in_ok-fired.ensures.done in (
      c.in_ok-fired.ensures.next,
      ap (λ (r : RunSoFar). r.doc) new,
      λ given left replayed. subst (IsReplayed given left c.in_ok-fired.fired) (sym new)
          (next_given c.a_session_is_disposed_by_a_dispose.ensures given left c.in_ok-fired.fired run c.args.batch
          c.in_ok-fired.ensures.fired replayed),
    )

may : (c : goal.In_ok-fired-2) → MayTake c.loop-fired.engine []
may c = c.loop-fired.invariant.0 c.loop-fired-test.true

emptied : (c : goal.In_ok-fired-2) → c.make_turn-in-loop-fired.new.engine ≡ with_turn c.loop-fired.engine []
emptied c =
    turned c.loop-fired.engine c.make_turn-in-loop-fired.new.engine [] (may c).settled
    (c.in_ok-fired-2.ensures.done
    ∙ ap (λ (b : List Entry). record c.loop-fired.engine { done = c.loop-fired.engine.done ++ b ∷ [] }) c.new.ensures)

emptied_fires : (c : goal.In_ok-fired-2) → c.in_ok-fired-2.fired
    ≡ fires (system_of c.loop-fired.engine.doc) (session_before c.loop-fired.engine) []
emptied_fires c =
    c.in_ok-fired-2.ensures.fired
    ∙ ap (fires (system_of c.loop-fired.engine.doc) (session_before c.loop-fired.engine)) c.new.ensures

pub loop-fired-preserved : goal.loop-fired-preserved
loop-fired-preserved c =
    let new = emptied c in (
      c.in_ok-fired-2.ensures.next,
      ap (λ (r : RunSoFar). r.doc) new ∙ c.loop-fired.invariant.1,
      λ given left replayed. subst (IsReplayed given left c.in_ok-fired-2.fired) (sym new)
          (next_empty c.a_session_is_disposed_by_a_dispose.ensures given left c.in_ok-fired-2.fired c.loop-fired.engine
          (may c) (emptied_fires c)
          (subst (λ (fired : Bool). IsReplayed given left fired c.loop-fired.engine) c.loop-fired-test.true
          (c.loop-fired.invariant.2 given left replayed))),
    )

pub loop-fired-smaller : goal.loop-fired-smaller
loop-fired-smaller c =
    subst (λ (fired : Bool). cond c.in_ok-fired-2.fired
    (budget_of (session_before c.make_turn-in-loop-fired.new.engine).state + 1) 0
    < cond fired (budget_of (session_before c.loop-fired.engine).state + 1) 0) (sym c.loop-fired-test.true)
    (firing_lowers c.turns_stop_where_they_must.ensures c.loop-fired.engine c.make_turn-in-loop-fired.new.engine
    c.in_ok-fired-2.fired (emptied c) (emptied_fires c))

pub returns-clause-replayed : goal.returns-clause-replayed
returns-clause-replayed c = λ given left replayed.
    subst (λ (fired : Bool). IsReplayed given left fired c.loop-fired.engine) c.loop-fired-test.false
    (c.loop-fired.invariant.2 given left replayed)
