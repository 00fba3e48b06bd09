use Rattle.std.proofs.Common.{◌≡◌, ◌++◌, map, take}
use Rattle.ready_order.specs.Arranging.{piece_of, occurring_in_pieces}
use Rattle.ready_order.proofs.variables.+occurring.Given as goal

abbrev pub invariant-push_each_occurring-loop-formula : goal.invariant-push_each_occurring-loop-formula
invariant-push_each_occurring-loop-formula l =
    l.vars.items ≡ l.fn.vars.items ++ occurring_in_pieces (map piece_of (take l.formula-index l.formulas))
