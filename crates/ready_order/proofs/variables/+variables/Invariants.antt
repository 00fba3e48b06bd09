use Rattle.std.proofs.Common.{◌≡◌, ◌++◌, take}
use Rattle.std.specs.List.{flat_map}
use Rattle.rif_tree.specs.Variables.{variables_of}
use Rattle.ready_order.proofs.variables.+variables.Given as goal

abbrev pub invariant-push_each_variables-loop-term : goal.invariant-push_each_variables-loop-term
invariant-push_each_variables-loop-term l =
    l.vars.items ≡ l.fn.vars.items ++ flat_map variables_of (take l.term-index l.terms)
