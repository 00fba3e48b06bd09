use Rattle.std.proofs.Common.{◌≡◌, ◌++◌, true, map, take, drop}
use Rattle.std.specs.List.{list_all}
use Rattle.rif_tree.specs.Ready.{part_of, each_ready, branch_ready}
use Rattle.ready_order.specs.Arranging.{piece_of, free_in_pieces}
use Rattle.ready_order.proofs.standing.+standing.Given as goal

abbrev pub invariant-stand_in_turn-loop-conjunct : goal.invariant-stand_in_turn-loop-conjunct
invariant-stand_in_turn-loop-conjunct l = record {
  ready : each_ready (map part_of (drop l.conjunct-index l.conjuncts)) l.held.items
      ≡ each_ready (map part_of l.conjuncts) l.fn.held.items;
  held : l.held.items ≡ l.fn.held.items ++ free_in_pieces (map piece_of (take l.conjunct-index l.conjuncts));
}

abbrev pub invariant-branches_stand-loop-branch : goal.invariant-branches_stand-loop-branch
invariant-branches_stand-loop-branch l =
    list_all (branch_ready l.bound l.all) (map part_of (take l.branch-index l.branches)) ≡ true
