use Rattle.std.proofs.Common.{◌≡◌, ◌-◌, length}
use Rattle.rif_refusals.specs.Limits.{most_batch_items}
use Rattle.rif_session.specs.Steps.{Fills}
use Rattle.rif_session.proofs.session_core.Core.fill.Given as goal

abbrev pub invariant-loop-self : goal.invariant-loop-self
invariant-loop-self g l =
    let old = l.initial.self in record {
      engine : l.self.engine ≡ old.engine;
      fills : Fills old.held.entries l.self.held.entries (g.L.Propagation.taken old.taker)
          (g.L.Propagation.taken l.self.taker) (g.L.Propagation.nones old.taker) (g.L.Propagation.nones l.self.taker);
      none : g.L.Propagation.nones l.self.taker ≡ g.L.Propagation.nones old.taker;
    }

abbrev pub decreases-loop-self : goal.decreases-loop-self
decreases-loop-self g l = most_batch_items - length l.self.held.entries
