-- Nothing that is free in a formula is lost in its conjuncts, nor where they are all taken.
use Rattle.std.proofs.Common.{◌≡◌, ℕ, List, [], ◌++◌, subst}
use Rattle.std.proofs.Common.{append-nil}
use Rattle.rif_tree.specs.declared.tree.Formula.{Formula}
use Rattle.rif_tree.specs.declared.tree.Formula.TheVariants.{And}
use Rattle.rif_tree.specs.Laws.{AreSame, IsReadinessOfMembers}
use Rattle.rif_tree.specs.Variables.{free_of}
use Rattle.rif_tree.proofs.CallerLemmas.{same_more}
use Rattle.ready_order.specs.Arranging.{Piece, arrangement_of, free_in_pieces}
use Rattle.ready_order.specs.Conjuncts.{conjuncts_of}
use Rattle.ready_order.specs.Laws.{IsNothingLost}
use Rattle.ready_order.proofs.FittingLemmas.{answer}
use Rattle.ready_order.proofs.KeepingLemmas.{conjuncts_free, conjuncts_occurring}
use Rattle.ready_order.proofs.ListLemmas.{same_back, same_on, same_equal}

-- what is bound behind all that is taken, and what is left, have what is free
whole_free : IsReadinessOfMembers → (f : Formula)
    → AreSame ((arrangement_of f).bound ++ free_in_pieces (arrangement_of f).left) (free_of f)
whole_free alike f =
    let a = arrangement_of f in
    let fs = conjuncts_of f in
    let out = answer alike [] fs in
    let us = free_of (And a.taken) in
    let ws = free_in_pieces a.left in
    same_on (a.bound ++ ws) (us ++ ws) (free_of f) (same_more a.bound us ws (same_back us a.bound out.binds))
    (same_on (us ++ ws) (free_of (And fs)) (free_of f) out.whole (same_equal (free_of (And fs)) (free_of f)
    (conjuncts_free f)))

taken_free : IsReadinessOfMembers → (f : Formula) → (arrangement_of f).left ≡ []
    → AreSame (free_of (And (arrangement_of f).taken)) (free_of f)
taken_free alike f none =
    let a = arrangement_of f in
    let us = free_of (And a.taken) in
    let out = answer alike [] (conjuncts_of f) in
    same_on us a.bound (free_of f) out.binds
    (subst (λ (vs : List ℕ). AreSame vs (free_of f)) (append-nil a.bound)
    (subst (λ (left : List Piece). AreSame (a.bound ++ free_in_pieces left) (free_of f)) none (whole_free alike f)))

pub nothing_lost : IsReadinessOfMembers → IsNothingLost
nothing_lost alike = record {
  conjuncts = conjuncts_free;
  occurring = conjuncts_occurring;
  parts = whole_free alike;
  taken = taken_free alike;
}
