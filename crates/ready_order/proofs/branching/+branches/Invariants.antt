use Rattle.std.proofs.Common.{◌≡◌, ◌≤◌, min, suc, map, nat_lt, take}
use Rattle.std.specs.List.{list_any}
use Rattle.rif_refusals.specs.Limits.{most_branches}
use Rattle.ready_order.specs.Branches.{Branching, apart_in, branching_of, product_of, sum_of}
use Rattle.ready_order.proofs.branching.+branches.Given as goal

abbrev pub invariant-product-loop-member : goal.invariant-product-loop-member
invariant-product-loop-member l =
    let so_far = map branching_of (take l.member-index l.members) in
    record {
      within : l.so_far.branches ≤ suc most_branches;
      branches : l.so_far.branches ≡ min (product_of (map Branching.branches so_far)) (suc most_branches);
      over : l.so_far.is_over ≡ list_any (nat_lt most_branches) (apart_in so_far);
    }

abbrev pub invariant-sum-loop-branch : goal.invariant-sum-loop-branch
invariant-sum-loop-branch l =
    let so_far = map branching_of (take l.branch-index l.branches) in
    record {
      within : l.so_far.branches ≤ suc most_branches;
      branches : l.so_far.branches ≡ min (sum_of (map Branching.branches so_far)) (suc most_branches);
      over : l.so_far.is_over ≡ list_any (nat_lt most_branches) (apart_in so_far);
    }
