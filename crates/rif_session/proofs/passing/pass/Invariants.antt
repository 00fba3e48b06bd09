use Rattle.rif_session.specs.Steps.{Advances, HasBegun}
use Rattle.rif_session.proofs.passing.pass.Given as goal

abbrev pub invariant-loop : goal.invariant-loop
invariant-loop g l =
    let old = l.initial.core in record {
      advances : Advances old.engine l.core.engine old.held.entries l.core.held.entries
          (g.L.Propagation.taken old.taker) (g.L.Propagation.taken l.core.taker) (g.L.Propagation.nones old.taker)
          (g.L.Propagation.nones l.core.taker);
      begun : HasBegun old.engine l.core.engine old.held.entries l.core.held.entries (g.L.Propagation.taken old.taker)
          (g.L.Propagation.taken l.core.taker) (g.L.Propagation.nones old.taker) (g.L.Propagation.nones l.core.taker);
      more : (goal.iterator-loop g).can_next l.iterator';
      ends : (goal.iterator-loop g).is_finite l.iterator';
    }
