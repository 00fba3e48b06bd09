use Rattle.std.proofs.Common.{rules, ◌≡◌, ◌∙◌, ◌++◌, false, None, map, sym, get_or, ap, add-one}
use Rattle.std.specs.List.{list_all}
use Rattle.rif_tree.specs.declared.tree.Formula.{Formula}
use Rattle.ready_order.specs.Arranging.{arranged, branch_at, piece_of, first_ready, free_in_pieces}
use Rattle.ready_order.specs.Findings.{marked_of}
use Rattle.ready_order.specs.Marks.{pieces_left, untaken}
use Rattle.ready_order.proofs.MarksLemmas.{none_yet}
use Rattle.ready_order.proofs.ProbingLemmas.{members_stuck, branch_missing, neither}
use Rattle.ready_order.proofs.probing.+probed.Goals as goal

pub find_more-returns : goal.find_more-returns
find_more-returns t c is_not =
    let bound = c.args.bound.now in
    let cs = c.args.members.now in
    let marks = c.in_ok-is_found.is_found in
    let held = c.in_ok-held.held in
    let is : held ≡ bound ++ free_in_pieces (map piece_of (marked_of cs marks)) = search rules in
    let none : first_ready held (pieces_left cs marks) ≡ None = search rules in
    let some_left : list_all (λ mark. mark) marks ≡ false = search rules in
    members_stuck c.readiness_grows.ensures bound held cs marks c.in_ok-is_found.ensures is none some_left

pub are_more_found-loop-place-preserved : goal.are_more_found-loop-place-preserved
are_more_found-loop-place-preserved t c is_not =
    let held = c.args.held.now in
    let cs = c.args.members.now in
    let marks = c.args.is_found.now in
    let i = c.loop-place.place in
    let member = c.index-members-place.result in
    let both = neither c.loop-place.is_more c.in_ok-is_one.is_one is_not in
    let none : untaken (get_or marks i false) (arranged held (get_or cs i member)) ≡ None =
    ap (λ (f : Formula). untaken (get_or marks i false) (arranged held f)) (sym c.index-members-place.is)
    ∙ c.in_ok-is_one.ensures both.1 in
    rw add-one (none_yet held cs marks i member c.loop-place-test.true c.requires.marks none
    (c.loop-place.invariant both.0))

pub may_each_be_arranged-returns-then-not-branch : goal.may_each_be_arranged-returns-then-not-branch
may_each_be_arranged-returns-then-not-branch t c is_not =
    let bound = c.args.bound.now in
    let all = c.args.all.now in
    let cs = c.args.branches.now in
    let i = c.loop-branch.branch-index in
    let branch = c.branch-item.result in
    branch_missing bound all cs i branch c.loop-branch-test.true
    (ap (λ (f : Formula). branch_at bound all (piece_of f)) (sym c.branch-item.is)
    ∙ c.in_ok-may_bind_all.ensures c.if-not-branch.true)
