use Rattle.std.proofs.Common.{◌≡◌, ◌++◌, map, take}
use Rattle.ready_order.specs.Arranging.{piece_of, free_in_pieces}
use Rattle.ready_order.proofs.variables.+free.Given as goal

abbrev pub invariant-push_each_free-loop-formula : goal.invariant-push_each_free-loop-formula
invariant-push_each_free-loop-formula l =
    l.vars.items ≡ l.fn.vars.items ++ free_in_pieces (map piece_of (take l.formula-index l.formulas))
