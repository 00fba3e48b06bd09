use Rattle.std.proofs.Common.{◌≡◌, take}
use Rattle.rif_tree.specs.Variables.{without}
use Rattle.ready_order.specs.Arranging.{least_of}
use Rattle.ready_order.proofs.division.least_without.Given as goal

abbrev pub invariant-loop-var : goal.invariant-loop-var
invariant-loop-var l = l.least ≡ least_of (without l.bound (take l.var-index l.vars))
