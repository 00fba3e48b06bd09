use Rattle.std.proofs.Common.{◌≡◌, false, length}
use Rattle.rif_engine.specs.Replaying.{IsReplayed}
use Rattle.rif_engine.proofs.replaying.replay.Given as goal

abbrev pub invariant-loop-batch : goal.invariant-loop-batch
invariant-loop-batch l =
    (l.engine.doc ≡ l.fn.doc) × IsReplayed l.fn.batches.items l.left.items false l.engine

abbrev pub decreases-loop-batch : goal.decreases-loop-batch
decreases-loop-batch l = length l.left.items
