-- The conjuncts of an `And` and of an `Or`.
use Rattle.std.proofs.Common.{◌≡◌, List, [], ◌∷◌, map, ap, ◌∙◌, sym}
use Rattle.std.specs.List.{flat_map}
use Rattle.std.proofs.lemmas.List.Folds.{flat_map-map}
use Rattle.std.proofs.lemmas.Simd.{map-map}
use Rattle.rif_tree.specs.declared.tree.Formula.{Formula}
use Rattle.rif_tree.specs.declared.tree.Formula.TheOpen.{And as AndLayer, Or as OrLayer}
use Rattle.rif_tree.specs.declared.tree.Formula.TheVariants.{And, Or, rolls-And, rolls-Or}
use Rattle.rif_tree.specs.declared.tree.Formula.TheFolds.{fold-roll-Formula}
use Rattle.ready_order.specs.Conjuncts.{conjuncts_of, conjuncts_step}

pub conjuncts_and : (fs : List Formula) → conjuncts_of (And fs) ≡ flat_map conjuncts_of fs
conjuncts_and fs =
    ap conjuncts_of (sym (rolls-And fs)) ∙ fold-roll-Formula (List Formula) conjuncts_step (AndLayer fs)
    ∙ flat_map-map (λ gs. gs) conjuncts_of fs

pub conjuncts_or : (fs : List Formula) → conjuncts_of (Or fs) ≡ Or (map (λ f. And (conjuncts_of f)) fs) ∷ []
conjuncts_or fs =
    ap conjuncts_of (sym (rolls-Or fs)) ∙ fold-roll-Formula (List Formula) conjuncts_step (OrLayer fs)
    ∙ ap (λ (gs : List Formula). Or gs ∷ []) (map-map (λ gs. And gs) conjuncts_of fs)
