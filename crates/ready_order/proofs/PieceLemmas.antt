-- A piece at each form that has a list of formulas, or a formula, inside it.
use Rattle.std.proofs.Common.{◌≡◌, List, map, ap, ◌∙◌, sym}
use Rattle.rif_tree.specs.declared.tree.Formula.{Formula}
use Rattle.rif_tree.specs.declared.tree.Formula.TheOpen.{And as AndLayer, Or as OrLayer}
use Rattle.rif_tree.specs.declared.tree.Formula.TheVariants.{And, Or, rolls-And, rolls-Or}
use Rattle.rif_tree.specs.declared.tree.Formula.TheFolds.{fold-roll-Formula}
use Rattle.ready_order.specs.Arranging.{Piece, piece_of, piece_step}

pub piece_and : (fs : List Formula) → piece_of (And fs) ≡ piece_step (AndLayer (map piece_of fs))
piece_and fs = ap piece_of (sym (rolls-And fs)) ∙ fold-roll-Formula Piece piece_step (AndLayer fs)

pub piece_or : (fs : List Formula) → piece_of (Or fs) ≡ piece_step (OrLayer (map piece_of fs))
piece_or fs = ap piece_of (sym (rolls-Or fs)) ∙ fold-roll-Formula Piece piece_step (OrLayer fs)
