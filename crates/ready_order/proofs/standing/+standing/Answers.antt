use Rattle.std.proofs.Common.{◌≡◌, ℕ, Bool, true, List, ◌∙◌, map, ap, sym}
use Rattle.std.specs.List.{list_all}
use Rattle.std.proofs.lemmas.List.Folds.{list_all_at, list_all-map}
use Rattle.rif_tree.specs.declared.tree.Formula.{Formula}
use Rattle.rif_tree.specs.Ready.{part_of, each_ready, branch_ready, is_ready}
use Rattle.ready_order.proofs.OwnLemmas.{held_more, standing_more}
use Rattle.ready_order.proofs.StayingLemmas.{ready_or}
use Rattle.ready_order.proofs.standing.+standing.Goals as goal

pub stand_in_turn-loop-conjunct-preserved : goal.stand_in_turn-loop-conjunct-preserved
stand_in_turn-loop-conjunct-preserved t c =
    let start = c.args.held.now.items in
    let cs = c.args.conjuncts.now in
    let held = c.loop-conjunct.held.items in
    let more = c.push_free.new.vars.items in
    let i = c.loop-conjunct.conjunct-index in
    let one = c.conjunct-item.result in
    let within = c.loop-conjunct-test.true in
    let ready : is_ready held one ≡ true =
    ap (λ (us : List ℕ). is_ready us one) (sym c.as_slice.ensures.value) ∙ sym c.in_ok-stands_ready.ensures
    ∙ c.if-not-branch.false in
    record {
      ready = standing_more (each_ready (map part_of cs) start) held more cs i one within c.conjunct-item.is
          c.loop-conjunct.invariant.ready ready c.in_ok-push_free.ensures;
      held = held_more start held more cs i one within c.conjunct-item.is c.loop-conjunct.invariant.held
          c.in_ok-push_free.ensures;
    }

pub or_stands-returns : goal.or_stands-returns
or_stands-returns t c =
    let bound = c.args.bound.now in
    let fs = c.args.branches.now in
    c.in_ok-are_standing.ensures
    ∙ ap (λ (all : List ℕ). list_all (branch_ready bound all) (map part_of fs))
    (c.as_slice.ensures ∙ c.in_ok-all.ensures)
    ∙ sym (ready_or bound fs)

pub branches_stand-returns-then-not-branch : goal.branches_stand-returns-then-not-branch
branches_stand-returns-then-not-branch t c =
    let fs = c.args.branches.now in
    let f = c.branch-item.result in
    let ready = branch_ready c.args.bound.now c.args.all.now in
    let test : Formula → Bool = λ g. ready (part_of g) in
    sym (list_all-map ready part_of fs
    ∙ list_all_at test fs c.loop-branch.branch-index f c.loop-branch-test.true
    (ap test (sym c.branch-item.is) ∙ sym c.in_ok-branch_stands.ensures ∙ c.if-not-branch.true))
