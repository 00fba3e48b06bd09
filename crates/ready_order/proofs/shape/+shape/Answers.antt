use Rattle.std.proofs.Common.{Bool, ◌∙◌, ap, sym}
use Rattle.std.proofs.lemmas.List.Folds.{list_all_at, list_all-map}
use Rattle.rif_tree.specs.declared.tree.Formula.{Formula}
use Rattle.ready_order.specs.Shapes.{Shape, shape_of}
use Rattle.ready_order.proofs.shape.+shape.Goals as goal

pub are_alone-returns-then-not-is_alone : goal.are_alone-returns-then-not-is_alone
are_alone-returns-then-not-is_alone t c =
    let fs = c.args.formulas.now in
    let f = c.formula-item.result in
    let test : Formula → Bool = λ g. (shape_of g).alone in
    sym (list_all-map Shape.alone shape_of fs
    ∙ list_all_at test fs c.loop-formula.formula-index f c.loop-formula-test.true
    (ap test (sym c.formula-item.is) ∙ sym c.is_alone.ensures ∙ c.if-not-is_alone.true))

pub are_together-returns-then-not-is_together : goal.are_together-returns-then-not-is_together
are_together-returns-then-not-is_together t c =
    let fs = c.args.formulas.now in
    let f = c.formula-item.result in
    let test : Formula → Bool = λ g. (shape_of g).together in
    sym (list_all-map Shape.together shape_of fs
    ∙ list_all_at test fs c.loop-formula.formula-index f c.loop-formula-test.true
    (ap test (sym c.formula-item.is) ∙ sym c.is_together.ensures ∙ c.if-not-is_together.true))
