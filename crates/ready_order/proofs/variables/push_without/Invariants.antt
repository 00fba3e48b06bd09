use Rattle.std.proofs.Common.{◌≡◌, ◌++◌, take}
use Rattle.rif_tree.specs.Variables.{without}
use Rattle.ready_order.proofs.variables.push_without.Given as goal

abbrev pub invariant-loop-var : goal.invariant-loop-var
invariant-loop-var l = l.vars.items ≡ l.fn.vars.items ++ without l.declared (take l.var-index l.inside)
