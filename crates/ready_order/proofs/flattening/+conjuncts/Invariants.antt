use Rattle.std.proofs.Common.{◌≡◌, ◌++◌, map, take}
use Rattle.std.specs.List.{flat_map}
use Rattle.rif_tree.specs.declared.tree.Formula.TheVariants.{And}
use Rattle.ready_order.specs.Conjuncts.{conjuncts_of}
use Rattle.ready_order.proofs.flattening.+conjuncts.Given as goal

abbrev pub invariant-push_each_conjuncts-loop-formula : goal.invariant-push_each_conjuncts-loop-formula
invariant-push_each_conjuncts-loop-formula l =
    l.all.items ≡ l.fn.all.items ++ flat_map conjuncts_of (take l.formula-index l.formulas)

abbrev pub invariant-grouped_each-loop-formula : goal.invariant-grouped_each-loop-formula
invariant-grouped_each-loop-formula l =
    l.groups.items ≡ map (λ f. And (conjuncts_of f)) (take l.formula-index l.formulas)
