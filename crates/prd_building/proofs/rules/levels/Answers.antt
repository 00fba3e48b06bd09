use Rattle.std.proofs.Common.{refl}
use Rattle.prd_building.specs.Signs.{ends_levels}
use Rattle.prd_building.specs.Building.{level_at}
use Rattle.prd_building.proofs.BuildingLists.{items_step, items_none, items_end}
use Rattle.prd_building.proofs.rules.levels.Goals as goal

pub returns-then-ends_levels : goal.returns-then-ends_levels
returns-then-ends_levels c =
    items_end ends_levels
    (level_at c.args.names.now c.args.most) c.loop-left.all c.args.leaves.now c.loop-left.at c.loop-left.left
    c.ends_levels.result _ c.loop-left.invariant c.loop-left-test.true c.ends_levels.ensures c.if-ends_levels.true

pub returns-in-None : goal.returns-in-None
returns-in-None c =
    items_none ends_levels
    (level_at c.args.names.now c.args.most) c.loop-left.all c.args.leaves.now c.loop-left.at c.loop-left.left
    c.in_ok-level.field-0 c.ends_levels.result _ c.loop-left.invariant c.loop-left-test.true c.ends_levels.ensures
    c.if-ends_levels.false
    c.in-None.is c.in_ok-level.ensures

pub loop-left-preserved : goal.loop-left-preserved
loop-left-preserved c =
    items_step ends_levels
    (level_at c.args.names.now c.args.most) c.loop-left.all c.push.new.self c.args.leaves.now c.loop-left.at
    c.loop-left.left
    c.in-Some.next _ c.in-Some.one c.in_ok-level.field-0 c.ends_levels.result _ c.loop-left.invariant
    c.loop-left-test.true refl
    c.ends_levels.ensures c.if-ends_levels.false c.in-Some.is c.in_ok-level.ensures c.in_ok-push-in-Some.ensures.ok
