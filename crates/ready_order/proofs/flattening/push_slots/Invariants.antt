use Rattle.std.proofs.Common.{◌≡◌, ◌++◌, take}
use Rattle.ready_order.specs.Conjuncts.{slots_of}
use Rattle.ready_order.proofs.flattening.push_slots.Given as goal

abbrev pub invariant-loop-pair : goal.invariant-loop-pair
invariant-loop-pair l = l.all.items ≡ l.fn.all.items ++ slots_of l.object (take l.pair-index l.pairs)
