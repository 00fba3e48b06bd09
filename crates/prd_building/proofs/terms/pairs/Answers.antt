use Rattle.std.proofs.Common.{refl}
use Rattle.prd_building.specs.Signs.{closes_square}
use Rattle.prd_building.specs.Building.{pair_at}
use Rattle.prd_building.proofs.BuildingLists.{items_step, items_none}
use Rattle.prd_building.proofs.terms.pairs.Goals as goal

pub returns-in-None : goal.returns-in-None
returns-in-None c =
    items_none closes_square
    (pair_at c.args.names.now c.args.most) c.loop-left.all c.args.leaves.now c.loop-left.at c.loop-left.left
    c.in_ok-pair.field-0 c.closes_square.result _ c.loop-left.invariant c.loop-left-test.true c.closes_square.ensures
    c.if-closes_square.false
    c.in-None.is c.in_ok-pair.ensures

pub loop-left-preserved : goal.loop-left-preserved
loop-left-preserved c =
    items_step closes_square
    (pair_at c.args.names.now c.args.most) c.loop-left.all c.push.new.self c.args.leaves.now c.loop-left.at
    c.loop-left.left
    c.in-Some.next _ c.in-Some.one c.in_ok-pair.field-0 c.closes_square.result _ c.loop-left.invariant
    c.loop-left-test.true refl
    c.closes_square.ensures c.if-closes_square.false c.in-Some.is c.in_ok-pair.ensures c.in_ok-push-in-Some.ensures.ok
