use Rattle.std.proofs.Common.{◌∙◌, ◌||◌, ℕ, Bool, suc, min, nat_lt, take, get_or, ap, ap₂, sym, arith, add-one}
use Rattle.std.specs.List.{list_any}
use Rattle.rif_refusals.specs.Limits.{most_branches}
use Rattle.rif_tree.specs.declared.tree.Formula.{Formula}
use Rattle.ready_order.specs.Branches.{branching_of, product_of, sum_of}
use Rattle.ready_order.proofs.BranchesLemmas.{cut_times, cut_plus, cut_product, cut_sum, branches_in}
use Rattle.ready_order.proofs.BranchesLemmas.{product_next, sum_next, apart_next}
use Rattle.ready_order.proofs.branching.+branches.Goals as goal

pub product-loop-member-preserved : goal.product-loop-member-preserved
product-loop-member-preserved t c =
    let fs = c.args.members.now in
    let i = c.loop-member.member-index in
    let f = c.member-item.result in
    let below = c.loop-member-test.true in
    let branches = c.count_branches-one.ensures.branches
    ∙ ap (λ (g : Formula). min (branching_of g).branches (suc most_branches)) c.member-item.is in
    let over = c.count_branches-one.ensures.over
    ∙ ap (λ (g : Formula). list_any (nat_lt most_branches) (branching_of g).apart) c.member-item.is in
    rw add-one
    (record {
      within = omega (arith, c.multiplied-so_far.ensures.branches);
      branches = c.multiplied-so_far.ensures.branches ∙ ap₂ cut_times c.loop-member.invariant.branches branches
          ∙ cut_product (product_of (branches_in (take i fs))) (branching_of (get_or fs i f)).branches
          ∙ ap (λ (n : ℕ). min n (suc most_branches)) (sym (product_next fs i f below));
      over = c.multiplied-so_far.ensures.over
          ∙ ap₂ (λ (a b : Bool). a || b) c.loop-member.invariant.over over ∙ sym (apart_next fs i f below);
    })

pub sum-loop-branch-preserved : goal.sum-loop-branch-preserved
sum-loop-branch-preserved t c =
    let fs = c.args.branches.now in
    let i = c.loop-branch.branch-index in
    let f = c.branch-item.result in
    let below = c.loop-branch-test.true in
    let branches = c.count_branches-one.ensures.branches
    ∙ ap (λ (g : Formula). min (branching_of g).branches (suc most_branches)) c.branch-item.is in
    let over = c.count_branches-one.ensures.over
    ∙ ap (λ (g : Formula). list_any (nat_lt most_branches) (branching_of g).apart) c.branch-item.is in
    rw add-one
    (record {
      within = omega (arith, c.added-so_far.ensures.branches);
      branches = c.added-so_far.ensures.branches ∙ ap₂ cut_plus c.loop-branch.invariant.branches branches
          ∙ cut_sum (sum_of (branches_in (take i fs))) (branching_of (get_or fs i f)).branches
          ∙ ap (λ (n : ℕ). min n (suc most_branches)) (sym (sum_next fs i f below));
      over = c.added-so_far.ensures.over
          ∙ ap₂ (λ (a b : Bool). a || b) c.loop-branch.invariant.over over ∙ sym (apart_next fs i f below);
    })
