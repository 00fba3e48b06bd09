use Rattle.std.proofs.Common.{◌≡◌, true, take}
use Rattle.rif_tree.specs.Ready.{pattern_ready}
use Rattle.ready_order.proofs.readiness.is_pattern_ready.Given as goal

abbrev pub invariant-loop-term : goal.invariant-loop-term
invariant-loop-term l = pattern_ready l.bound (take l.term-index l.terms) ≡ true
