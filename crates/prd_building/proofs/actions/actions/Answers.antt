use Rattle.std.proofs.Common.{refl}
use Rattle.prd_building.specs.Signs.{closes}
use Rattle.prd_building.specs.Building.{action_at}
use Rattle.prd_building.proofs.BuildingLists.{items_step, items_none, items_end}
use Rattle.prd_building.proofs.actions.actions.Goals as goal

pub returns-then-closes : goal.returns-then-closes
returns-then-closes c =
    items_end closes (action_at c.args.names.now c.args.most) c.loop-left.all c.args.leaves.now c.loop-left.at
    c.loop-left.left
    c.closes.result _ c.loop-left.invariant c.loop-left-test.true c.closes.ensures c.if-closes.true

pub returns-in-None : goal.returns-in-None
returns-in-None c =
    items_none closes (action_at c.args.names.now c.args.most) c.loop-left.all c.args.leaves.now c.loop-left.at
    c.loop-left.left
    c.in_ok-action.field-0 c.closes.result _ c.loop-left.invariant c.loop-left-test.true c.closes.ensures
    c.if-closes.false
    c.in-None.is c.in_ok-action.ensures

pub loop-left-preserved : goal.loop-left-preserved
loop-left-preserved c =
    items_step closes (action_at c.args.names.now c.args.most) c.loop-left.all c.push.new.self c.args.leaves.now
    c.loop-left.at c.loop-left.left
    c.in-Some.next _ c.in-Some.one c.in_ok-action.field-0 c.closes.result _ c.loop-left.invariant
    c.loop-left-test.true refl
    c.closes.ensures c.if-closes.false c.in-Some.is c.in_ok-action.ensures c.in_ok-push-in-Some.ensures.ok
