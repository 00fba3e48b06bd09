use Rattle.std.proofs.Common.{◌≡◌, ℕ, true, List, [], ◌++◌, map, ◌∙◌, ap₂, sym}
use Rattle.rif_tree.specs.declared.tree.Formula.{Formula}
use Rattle.rif_tree.specs.Ready.{part_of, each_ready}
use Rattle.ready_order.specs.Arranging.{Arrangement, piece_of, free_in_pieces}
use Rattle.ready_order.proofs.StayingLemmas.{ready_in_order}
use Rattle.ready_order.proofs.arranging.divide.Goals as goal

pub returns-then-branch : goal.returns-then-branch
returns-then-branch c =
    let cs = c.args.conjuncts in
    let same = c.as_slice.ensures in
    let begun = c.new-bound.ensures.items in
    let said = c.in_ok-stand_in_turn.ensures in
    let ready : each_ready (map part_of cs) [] ≡ true =
    ap₂ (λ (fs : List Formula) (us : List ℕ). each_ready (map part_of fs) us) (sym same) (sym begun)
    ∙ sym said.ready ∙ c.if-branch.true in
    let bound : c.from_vec.result ≡ free_in_pieces (map piece_of cs) =
    c.from_vec.ensures ∙ said.held c.if-branch.true
    ∙ ap₂ (λ (fs : List Formula) (us : List ℕ). us ++ free_in_pieces (map piece_of fs)) same begun in
    let told : List Formula → List ℕ → Arrangement =
    λ left us. record { taken = cs; left = map piece_of left; bound = us } in
    ap₂ told c.new.ensures bound ∙ sym (ready_in_order [] cs ready)
