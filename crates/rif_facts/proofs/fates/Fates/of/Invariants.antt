use Rattle.std.proofs.Common.{◌≡◌, ◌≤◌, drop, length}
use Rattle.rif_values.specs.declared.fact.Fact.{Fact}
use Rattle.rif_facts.specs.Fates.{fate_of, fate_kept}
use Rattle.rif_facts.proofs.fates.Fates.of.Given as goal

abbrev pub invariant-loop-left : goal.invariant-loop-left
invariant-loop-left l =
    (l.left ≤ length l.changes) × ((q : Fact) → fate_kept l.fates q ≡ fate_of (drop l.left l.changes) q)

abbrev pub decreases-loop-left : goal.decreases-loop-left
decreases-loop-left l = l.left
