use Rattle.std.proofs.Common.{◌≡◌, true, map, take}
use Rattle.std.specs.List.{list_all}
use Rattle.ready_order.specs.Shapes.{Shape, shape_of}
use Rattle.ready_order.proofs.shape.+shape.Given as goal

abbrev pub invariant-are_alone-loop-formula : goal.invariant-are_alone-loop-formula
invariant-are_alone-loop-formula l = list_all Shape.alone (map shape_of (take l.formula-index l.formulas)) ≡ true

abbrev pub invariant-are_together-loop-formula : goal.invariant-are_together-loop-formula
invariant-are_together-loop-formula l =
    list_all Shape.together (map shape_of (take l.formula-index l.formulas)) ≡ true
