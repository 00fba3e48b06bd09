use Rattle.std.proofs.Common.{◌∙◌, List, Some, ap, sym, subst, inl, inr}
use Rattle.session_states.specs.Batches.{joined}
use Rattle.session_states.specs.declared.item.Entry.{Entry}
use Rattle.session_states.specs.declared.turn.Act.{Act}
use Rattle.prd_relation.specs.RuleSystem.{system_of}
use Rattle.rif_engine.specs.SoFar.{RunSoFar, last_act_of}
use Rattle.rif_session.specs.Sessions.{AreFrontOfRun, batches_so_far, ends_disposed}
use Rattle.rif_session.proofs.CoreLemmas.{not_none}
use Rattle.rif_session.proofs.FrontLemmas.{act_disposes, settled_batches}
use Rattle.rif_session.proofs.session_core.Core.settle.Goals as goal

pub invariant_of-self-2-clause-known : goal.invariant_of-self-2-clause-known
invariant_of-self-2-clause-known g c = ap (λ (r : RunSoFar). r.doc) c.in_ok-act.ensures.ok ∙ c.args.self.now.known

pub invariant_of-self-2-clause-same : goal.invariant_of-self-2-clause-same
invariant_of-self-2-clause-same g c =
    let core = c.args.self.now in
    c.shut_where_disposed.ensures.same.1 ∙ core.same
    ∙ ap (λ (bs : List (List Entry)). joined bs core.held.entries)
    (sym (ap batches_so_far c.in_ok-act.ensures.ok ∙ settled_batches core.engine))

pub invariant_of-self-2-clause-lawful : goal.invariant_of-self-2-clause-lawful
invariant_of-self-2-clause-lawful g c =
    let core = c.args.self.now in
    subst (λ (r : RunSoFar). AreFrontOfRun (system_of r.doc) (batches_so_far r)) (sym c.in_ok-act.ensures.ok)
    (subst (AreFrontOfRun (system_of core.engine.doc)) (sym (settled_batches core.engine)) core.lawful)

pub invariant_of-self-2-clause-shut : goal.invariant_of-self-2-clause-shut
invariant_of-self-2-clause-shut g c = λ is.
    let core = c.args.self.now in
    let batches = ap batches_so_far c.in_ok-act.ensures.ok ∙ settled_batches core.engine in
    ap ends_disposed batches
    ∙ (elim (c.shut_where_disposed.ensures.other is) [
      | inl disposed ↦ act_disposes (record {
        by = c.a_dispose_disposes.ensures;
        only = c.a_session_is_disposed_by_a_dispose.ensures;
        stops = c.turns_stop_where_they_must.ensures;
      }) core.engine core.lawful c.requires.owes
          (sym (ap last_act_of c.in_ok-act.ensures.ok) ∙ c.in_ok-act.ensures.act ∙ ap (λ (a : Act). Some a) disposed)
      | inr before ↦ core.shut before
    ])

pub invariant_of-self-2-clause-free : goal.invariant_of-self-2-clause-free
invariant_of-self-2-clause-free g c = λ some.
    absurd (not_none c.args.self.now.engine.owed c.requires.owes (c.args.self.now.free some).0)
