use Rattle.std.proofs.Common.{◌++◌, ◌∙◌, false, get_or, ap, add-one}
use Rattle.rif_tree.specs.declared.tree.Formula.{Formula}
use Rattle.ready_order.proofs.ProbingLemmas.{held_next, free_where}
use Rattle.ready_order.proofs.probing.held_behind.Goals as goal

pub loop-place-preserved : goal.loop-place-preserved
loop-place-preserved c =
    let held = c.loop-place.held.items in
    let marks = c.args.is_found.now in
    let i = c.loop-place.place in
    let member = c.index-members-place.result in
    rw add-one (held_next c.args.bound.now held c.push_free_where.new.held.items c.args.members.now marks i member
    c.loop-place-test.true c.requires.marks c.loop-place.invariant
    (c.in_ok-push_free_where.ensures
    ∙ ap (λ (f : Formula). held ++ free_where (get_or marks i false) f) c.index-members-place.is))
