use Rattle.std.proofs.Common.{refl}
use Rattle.prd_building.specs.Signs.{ends_such}
use Rattle.prd_building.specs.Building.{formula_at}
use Rattle.prd_building.proofs.BuildingLists.{items_step, items_none, items_end}
use Rattle.prd_building.proofs.rules.such.Goals as goal

pub returns-then-ends_such : goal.returns-then-ends_such
returns-then-ends_such c =
    items_end ends_such (formula_at c.args.names.now c.args.most) c.loop-left.all c.args.leaves.now c.loop-left.at
    c.loop-left.left
    c.ends_such.result _ c.loop-left.invariant c.loop-left-test.true c.ends_such.ensures c.if-ends_such.true

pub returns-in-None : goal.returns-in-None
returns-in-None c =
    items_none ends_such
    (formula_at c.args.names.now c.args.most) c.loop-left.all c.args.leaves.now c.loop-left.at c.loop-left.left
    c.in_ok-formula.field-0 c.ends_such.result _ c.loop-left.invariant c.loop-left-test.true c.ends_such.ensures
    c.if-ends_such.false
    c.in-None.is c.in_ok-formula.ensures

pub loop-left-preserved : goal.loop-left-preserved
loop-left-preserved c =
    items_step ends_such
    (formula_at c.args.names.now c.args.most) c.loop-left.all c.push.new.self c.args.leaves.now c.loop-left.at
    c.loop-left.left
    c.in-Some.next _ c.in-Some.one c.in_ok-formula.field-0 c.ends_such.result _ c.loop-left.invariant
    c.loop-left-test.true refl
    c.ends_such.ensures c.if-ends_such.false c.in-Some.is c.in_ok-formula.ensures c.in_ok-push-in-Some.ensures.ok
