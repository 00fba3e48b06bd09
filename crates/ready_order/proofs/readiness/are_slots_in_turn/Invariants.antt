use Rattle.std.proofs.Common.{◌≡◌, drop}
use Rattle.rif_tree.specs.Ready.{slots_ready}
use Rattle.ready_order.proofs.readiness.are_slots_in_turn.Given as goal

abbrev pub invariant-loop-pair : goal.invariant-loop-pair
invariant-loop-pair l =
    slots_ready l.object (drop l.pair-index l.pairs) l.held.items ≡ slots_ready l.object l.pairs l.bound
