use Rattle.std.proofs.Common.{◌≡◌, true, take}
use Rattle.rif_tree.specs.Variables.{has_all}
use Rattle.ready_order.proofs.variables.has_all.Given as goal

abbrev pub invariant-loop-var : goal.invariant-loop-var
invariant-loop-var l = has_all l.vars (take l.var-index l.wanted) ≡ true
