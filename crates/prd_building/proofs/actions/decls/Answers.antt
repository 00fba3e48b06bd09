use Rattle.std.proofs.Common.{refl}
use Rattle.prd_building.specs.Signs.{ends_decls}
use Rattle.prd_building.specs.Building.{decl_at}
use Rattle.prd_building.proofs.BuildingLists.{items_step, items_none, items_end}
use Rattle.prd_building.proofs.actions.decls.Goals as goal

pub returns-then-ends_decls : goal.returns-then-ends_decls
returns-then-ends_decls c =
    items_end ends_decls
    (decl_at c.args.names.now c.args.most) c.loop-left.all c.args.leaves.now c.loop-left.at c.loop-left.left
    c.ends_decls.result _ c.loop-left.invariant c.loop-left-test.true c.ends_decls.ensures c.if-ends_decls.true

pub returns-in-None : goal.returns-in-None
returns-in-None c =
    items_none ends_decls
    (decl_at c.args.names.now c.args.most) c.loop-left.all c.args.leaves.now c.loop-left.at c.loop-left.left
    c.in_ok-decl.field-0 c.ends_decls.result _ c.loop-left.invariant c.loop-left-test.true c.ends_decls.ensures
    c.if-ends_decls.false
    c.in-None.is c.in_ok-decl.ensures

pub loop-left-preserved : goal.loop-left-preserved
loop-left-preserved c =
    items_step ends_decls
    (decl_at c.args.names.now c.args.most) c.loop-left.all c.push.new.self c.args.leaves.now c.loop-left.at
    c.loop-left.left
    c.in-Some.next _ c.in-Some.one c.in_ok-decl.field-0 c.ends_decls.result _ c.loop-left.invariant
    c.loop-left-test.true refl
    c.ends_decls.ensures c.if-ends_decls.false c.in-Some.is c.in_ok-decl.ensures c.in_ok-push-in-Some.ensures.ok
