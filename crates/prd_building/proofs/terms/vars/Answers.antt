use Rattle.std.proofs.Common.{refl}
use Rattle.prd_building.specs.Signs.{ends_vars}
use Rattle.prd_building.specs.Building.{var_at}
use Rattle.prd_building.proofs.BuildingLists.{items_step, items_none}
use Rattle.prd_building.proofs.terms.vars.Goals as goal

pub returns-in-None : goal.returns-in-None
returns-in-None c =
    items_none ends_vars (var_at c.args.names.now) c.loop-left.all c.args.leaves.now c.loop-left.at c.loop-left.left
    c.in_ok-var.field-0 c.ends_vars.result _ c.loop-left.invariant c.loop-left-test.true c.ends_vars.ensures
    c.if-ends_vars.false
    c.in-None.is c.in_ok-var.ensures

pub loop-left-preserved : goal.loop-left-preserved
loop-left-preserved c =
    items_step ends_vars
    (var_at c.args.names.now) c.loop-left.all c.push.new.self c.args.leaves.now c.loop-left.at c.loop-left.left
    c.in-Some.next _ c.in-Some.one c.in_ok-var.field-0 c.ends_vars.result _ c.loop-left.invariant
    c.loop-left-test.true refl
    c.ends_vars.ensures c.if-ends_vars.false c.in-Some.is c.in_ok-var.ensures c.in_ok-push-in-Some.ensures.ok
