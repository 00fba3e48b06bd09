use Rattle.std.proofs.Common.{◌∙◌, [], ◌∷◌, ◌++◌, sym, ap}
use Rattle.session_states.specs.OpenBatches.{takes_more}
use Rattle.rif_session.specs.Sessions.{batches_so_far}
use Rattle.rif_session.proofs.CoreLemmas.{held_more, ok_of}
use Rattle.rif_session.proofs.session_core.Core.take_one.Goals as goal

pub invariant_of-self-in-Some-clause-same : goal.invariant_of-self-in-Some-clause-same
invariant_of-self-in-Some-clause-same g c =
    let core = c.args.self.now in
    held_more (batches_so_far core.engine) core.held.entries c.add.new.self.entries (g.L.Propagation.taken core.taker)
    (g.L.Propagation.taken c.next.new.taker) (c.in-Some.entry ∷ []) core.same c.in-Some.ensures.entry.0
    (ok_of _ c.add.result (c.add.ensures.takes.1 (ap takes_more c.reserve.ensures.entries ∙ c.requires.takes))
    c.add.ensures.ok
    ∙ ap (λ es. es ++ c.in-Some.entry ∷ []) c.reserve.ensures.entries)

pub invariant_of-self-in-Some-clause-free : goal.invariant_of-self-in-Some-clause-free
invariant_of-self-in-Some-clause-free g c = λ some. (c.requires.settled, c.requires.live)

pub invariant_of-self-in-Some-clause-shut : goal.invariant_of-self-in-Some-clause-shut
invariant_of-self-in-Some-clause-shut g c = λ is. c.args.self.now.shut (sym c.in-Some.ensures.same.1 ∙ is)
