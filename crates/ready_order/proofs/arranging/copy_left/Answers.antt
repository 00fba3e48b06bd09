use Rattle.std.proofs.Common.{◌++◌, ◌∙◌, List, false, take, get_or, ap, sym, add-one}
use Rattle.rif_tree.specs.declared.tree.Formula.{Formula}
use Rattle.ready_order.specs.Marks.{left_of}
use Rattle.ready_order.proofs.MarksLemmas.{left_next, unless_marked}
use Rattle.ready_order.proofs.arranging.copy_left.Goals as goal

pub loop-place-preserved : goal.loop-place-preserved
loop-place-preserved c =
    let cs = c.args.conjuncts.now in
    let marks = c.args.is_taken.now in
    let i = c.loop-place.place in
    let conjunct = c.index-conjuncts-place.result in
    let mark = get_or marks i false in
    rw add-one (c.in_ok-push_unless.ensures
    ∙ ap (λ (ds : List Formula). ds ++ unless_marked mark conjunct) c.loop-place.invariant
    ∙ ap (λ (f : Formula). left_of (take i cs) (take i marks) ++ unless_marked mark f) c.index-conjuncts-place.is
    ∙ sym (left_next cs marks i conjunct c.loop-place-test.true c.requires.marks))
