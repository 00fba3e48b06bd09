use Rattle.std.proofs.Common.{◌≡◌, ◌++◌, take}
use Rattle.rif_tree.specs.Variables.{slots_free}
use Rattle.ready_order.proofs.variables.push_frame.Given as goal

abbrev pub invariant-loop-pair : goal.invariant-loop-pair
invariant-loop-pair l = l.vars.items ≡ l.fn.vars.items ++ slots_free l.object (take l.pair-index l.pairs)
