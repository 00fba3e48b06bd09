use Rattle.std.proofs.Common.{rules, ◌≡◌, ◌≤◌, ◌∙◌, ℕ, false, List, Some, None, length, get_or, ap, sym, arith}
use Rattle.std.proofs.Common.{add-one}
use Rattle.rif_tree.specs.declared.tree.Formula.{Formula}
use Rattle.ready_order.specs.Arranging.{Arrangement, arranged, first_ready, branch_at, piece_of, where_none_left}
use Rattle.ready_order.specs.Marks.{pieces_left, taking_told, untaken}
use Rattle.ready_order.proofs.ArrangedLemmas.{branch_kept, branch_missing}
use Rattle.ready_order.proofs.MarksLemmas.{underway_first, underway_next, underway_stops, underway_ends}
use Rattle.ready_order.proofs.MarksLemmas.{none_yet, found_at, all_taken}
use Rattle.ready_order.proofs.arranging.+arranged.Goals as goal

pub take_ready-loop-turn-init : goal.take_ready-loop-turn-init
take_ready-loop-turn-init t c =
    underway_first c.args.bound.now c.args.conjuncts.now c.in_ok-progress.progress c.in_ok-progress.ensures

pub take_ready-loop-turn-preserved : goal.take_ready-loop-turn-preserved
take_ready-loop-turn-preserved t c =
    let cs = c.args.conjuncts.now in
    let progress = c.loop-turn.progress in
    let some : first_ready progress.bound (pieces_left cs progress.is_taken)
    ≡ Some (taking_told cs progress.is_taken c.in-Some.found) = search rules in
    rw add-one (underway_next c.args.bound.now cs c.loop-turn.turn progress c.take.new.self c.in-Some.found
    c.loop-turn.invariant some c.in_ok-take-in-Some.ensures)

pub take_ready-returns-in-None-clause-arranged : goal.take_ready-returns-in-None-clause-arranged
take_ready-returns-in-None-clause-arranged t c =
    let cs = c.args.conjuncts.now in
    let progress = c.loop-turn.progress in
    let none : first_ready progress.bound (pieces_left cs progress.is_taken) ≡ None = search rules in
    underway_stops c.args.bound.now cs c.loop-turn.turn progress c.loop-turn.invariant none

pub take_ready-returns-clause-arranged : goal.take_ready-returns-clause-arranged
take_ready-returns-clause-arranged t c =
    let test = c.loop-turn-test.false in
    let ended : length c.args.conjuncts.now ≤ c.loop-turn.turn = omega (arith, test) in
    underway_ends c.args.bound.now c.args.conjuncts.now c.loop-turn.turn c.loop-turn.progress
    c.loop-turn.invariant ended

pub next_ready-loop-place-preserved : goal.next_ready-loop-place-preserved
next_ready-loop-place-preserved t c =
    let bound = c.args.bound.now in
    let cs = c.args.conjuncts.now in
    let marks = c.args.is_taken.now in
    let i = c.loop-place.place in
    let conjunct = c.index-conjuncts-place.result in
    let none : untaken (get_or marks i false) (arranged bound (get_or cs i conjunct)) ≡ None =
    ap (λ (f : Formula). untaken (get_or marks i false) (arranged bound f)) (sym c.index-conjuncts-place.is)
    ∙ sym c.in_ok-outcome.ensures ∙ c.in-None.is in
    rw add-one (none_yet bound cs marks i conjunct c.loop-place-test.true c.requires.marks none
    c.loop-place.invariant)

pub next_ready-returns-in-Some-clause-found : goal.next_ready-returns-in-Some-clause-found
next_ready-returns-in-Some-clause-found t c =
    let bound = c.args.bound.now in
    let cs = c.args.conjuncts.now in
    let marks = c.args.is_taken.now in
    let i = c.loop-place.place in
    let conjunct = c.index-conjuncts-place.result in
    let taken = c.in-Some.taken in
    let some : untaken (get_or marks i false) (arranged bound (get_or cs i conjunct)) ≡ Some taken =
    ap (λ (f : Formula). untaken (get_or marks i false) (arranged bound f)) (sym c.index-conjuncts-place.is)
    ∙ sym c.in_ok-outcome.ensures ∙ c.in-Some.is in
    found_at bound cs marks i conjunct taken c.loop-place-test.true c.requires.marks some c.loop-place.invariant
    ∙ ap (λ (vs : List ℕ). Some (taking_told cs marks (record { place = i; taken = taken; binds = vs })))
    (ap (λ (f : Formula). (piece_of f).free) (sym c.index-conjuncts-place.is)
    ∙ sym c.in_ok-binds-in-Some.ensures)

pub arranged_members-returns : goal.arranged_members-returns
arranged_members-returns t c =
    let done = c.in_ok-done.done in
    c.where_all_taken.ensures
    ∙ all_taken c.args.members.now done.is_taken done.taken c.in_ok-done.ensures.marks
    ∙ ap (λ (a : Arrangement). where_none_left a.left a.taken) c.in_ok-done.ensures.arranged

pub arranged_branches-loop-branch-preserved : goal.arranged_branches-loop-branch-preserved
arranged_branches-loop-branch-preserved t c =
    let bound = c.args.bound.now in
    let all = c.args.all.now in
    let cs = c.args.branches.now in
    let i = c.loop-branch.branch-index in
    let branch = c.branch-item.result in
    let some : branch_at bound all (piece_of (get_or cs i branch)) ≡ Some c.in-Some.found =
    ap (λ (f : Formula). branch_at bound all (piece_of f)) (sym c.branch-item.is) ∙ sym c.in_ok-outcome.ensures
    ∙ c.in-Some.is in
    rw add-one (branch_kept bound all c.loop-branch.kept.items c.push.new.self.items c.in-Some.found cs i branch
    c.loop-branch-test.true some c.in_ok-push-in-Some.ensures.items c.loop-branch.invariant)

pub arranged_branches-returns-in-None : goal.arranged_branches-returns-in-None
arranged_branches-returns-in-None t c =
    let bound = c.args.bound.now in
    let all = c.args.all.now in
    let cs = c.args.branches.now in
    let i = c.loop-branch.branch-index in
    let branch = c.branch-item.result in
    let none : branch_at bound all (piece_of (get_or cs i branch)) ≡ None =
    ap (λ (f : Formula). branch_at bound all (piece_of f)) (sym c.branch-item.is) ∙ sym c.in_ok-outcome.ensures
    ∙ c.in-None.is in
    sym (branch_missing bound all c.loop-branch.kept.items cs i branch c.loop-branch-test.true none
    c.loop-branch.invariant)
