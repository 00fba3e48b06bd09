use Rattle.std.proofs.Common.{refl, ◌≡◌, sym, ◌∙◌, ap, Some, drop, List}
use Rattle.rif_tree.specs.declared.tree.Formula.{Formula}
use Rattle.rif_tree.specs.declared.tree.Formula.TheVariants.{And, Or}
use Rattle.prd_grammar.specs.declared.leaf.Leaf.{Leaf}
use Rattle.prd_building.specs.declared.signs.FormulaSign.TheVariants.{And as AndSign, Or as OrSign}
use Rattle.prd_building.specs.Signs.{closes, formula_sign}
use Rattle.prd_building.specs.Building.{formula_at, formulas_at, with_rest}
use Rattle.prd_building.proofs.BuildingLists.{items_step, items_none, items_end, after_is}
use Rattle.prd_building.proofs.formulas.+formula.Goals as goal

pub formula_within-returns-in-Some : goal.formula_within-returns-in-Some
formula_within-returns-in-Some t c =
    let sign : formula_sign (drop c.args.at c.args.leaves.now) ≡ AndSign = sym c.formula_sign.ensures ∙ c.in-And.is in
    let given : Some (c.in-Some.all, drop c.in-Some.end c.args.leaves.now)
    ≡ formulas_at c.args.names.now c.args.left (drop 2 (drop c.args.at c.args.leaves.now)) =
    ap (with_rest c.args.leaves.now) (sym c.in-Some.is)
    ∙ (c.in_ok-formulas-in-And.ensures ∙ ap (formulas_at c.args.names.now c.args.left) c.past.ensures) in
    rw (sign, formula_at)
    (rw c.past-in-Some.ensures
    (after_is {Y = Formula} (formulas_at c.args.names.now c.args.left (drop 2 (drop c.args.at c.args.leaves.now)))
    c.in-Some.all (drop c.in-Some.end c.args.leaves.now)
    (λ (fs : List Formula) (rest : List Leaf). Some (And fs, drop 1 rest)) given))

pub formula_within-returns-in-Some-2 : goal.formula_within-returns-in-Some-2
formula_within-returns-in-Some-2 t c =
    let sign : formula_sign (drop c.args.at c.args.leaves.now) ≡ OrSign = sym c.formula_sign.ensures ∙ c.in-Or.is in
    let given : Some (c.in-Some-2.all, drop c.in-Some-2.end c.args.leaves.now)
    ≡ formulas_at c.args.names.now c.args.left (drop 2 (drop c.args.at c.args.leaves.now)) =
    ap (with_rest c.args.leaves.now) (sym c.in-Some-2.is)
    ∙ (c.in_ok-formulas-in-Or.ensures ∙ ap (formulas_at c.args.names.now c.args.left) c.past-in-Or.ensures) in
    rw (sign, formula_at)
    (rw c.past-in-Some-2.ensures
    (after_is {Y = Formula} (formulas_at c.args.names.now c.args.left (drop 2 (drop c.args.at c.args.leaves.now)))
    c.in-Some-2.all (drop c.in-Some-2.end c.args.leaves.now)
    (λ (fs : List Formula) (rest : List Leaf). Some (Or fs, drop 1 rest)) given))

pub formulas-returns-then-closes : goal.formulas-returns-then-closes
formulas-returns-then-closes t c =
    items_end closes (formula_at c.args.names.now c.args.most) c.loop-left.all c.args.leaves.now c.loop-left.at
    c.loop-left.left
    c.closes.result _ c.loop-left.invariant c.loop-left-test.true c.closes.ensures c.if-closes.true

pub formulas-returns-in-None : goal.formulas-returns-in-None
formulas-returns-in-None t c =
    items_none closes (formula_at c.args.names.now c.args.most) c.loop-left.all c.args.leaves.now c.loop-left.at
    c.loop-left.left
    c.in_ok-formula.field-0 c.closes.result _ c.loop-left.invariant c.loop-left-test.true c.closes.ensures
    c.if-closes.false
    c.in-None.is c.in_ok-formula.ensures

pub formulas-loop-left-preserved : goal.formulas-loop-left-preserved
formulas-loop-left-preserved t c =
    items_step closes (formula_at c.args.names.now c.args.most) c.loop-left.all c.push.new.self c.args.leaves.now
    c.loop-left.at c.loop-left.left
    c.in-Some.next _ c.in-Some.one c.in_ok-formula.field-0 c.closes.result _ c.loop-left.invariant
    c.loop-left-test.true refl
    c.closes.ensures c.if-closes.false c.in-Some.is c.in_ok-formula.ensures c.in_ok-push-in-Some.ensures.ok
