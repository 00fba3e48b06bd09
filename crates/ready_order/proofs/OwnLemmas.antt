-- Conjuncts that are moved, and conjuncts that stand ready, one more in a loop.
use Rattle.std.proofs.Common.{◌≡◌, ℕ, ◌+◌, ◌<◌, Bool, true, ◌&&◌, List, [], ◌∷◌, ◌++◌, map, length, get_or, take}
use Rattle.std.proofs.Common.{drop, ap, ap₂, ◌∙◌, sym, append_assoc}
use Rattle.std.specs.List.{list_all, flat_map}
use Rattle.std.proofs.lemmas.List.{append-nil, take_more, drop_more}
use Rattle.std.proofs.lemmas.List.Folds.{flat_map-map}
use Rattle.std.proofs.lemmas.Grind.{flat_map-append}
use Rattle.rif_tree.specs.declared.tree.Formula.{Formula}
use Rattle.rif_tree.specs.declared.tree.Formula.TheVariants.{And}
use Rattle.rif_tree.specs.Ready.{part_of, each_ready, is_ready}
use Rattle.ready_order.specs.Arranging.{Piece, piece_of, free_in_pieces}
use Rattle.ready_order.specs.Conjuncts.{conjuncts_of}
use Rattle.ready_order.specs.Shapes.{Shape, shape_of}
use Rattle.ready_order.proofs.ConjunctsLemmas.{conjuncts_and}
use Rattle.ready_order.proofs.StayingLemmas.{alone_own, free_alike}

-- ---- conjuncts that are moved

pub own_members : (members : List Formula) → list_all Shape.alone (map shape_of members) ≡ true
    → members ≡ conjuncts_of (And members)
own_members members alone = sym (conjuncts_and members ∙ alone_own members alone)

-- where all but the last stand alone
pub own_before : (before members : List Formula) (last : Formula) → members ≡ before ++ last ∷ []
    → list_all Shape.alone (map shape_of before) ≡ true
    → before ++ conjuncts_of last ≡ conjuncts_of (And members)
own_before before members last is alone =
    sym (conjuncts_and members ∙ ap (flat_map conjuncts_of) is ∙ flat_map-append conjuncts_of before (last ∷ [])
    ∙ ap₂ (λ fs gs. fs ++ gs) (alone_own before alone) (append-nil (conjuncts_of last)))

-- ---- conjuncts that stand ready

pub standing_more : (whole : Bool) (held more : List ℕ) (cs : List Formula) (i : ℕ) (c : Formula) → i < length cs
    → c ≡ get_or cs i c → each_ready (map part_of (drop i cs)) held ≡ whole → is_ready held c ≡ true
    → more ≡ held ++ (piece_of c).free → each_ready (map part_of (drop (i + 1) cs)) more ≡ whole
standing_more whole held more cs i c within is so_far ready said =
    let left = drop (i + 1) cs in
    let behind = each_ready (map part_of left) (held ++ (part_of c).free) in
    let next : c ∷ left ≡ drop i cs = ap (λ f. f ∷ left) is ∙ sym (drop_more cs i c within) in
    ap (each_ready (map part_of left)) (said ∙ ap (λ us. held ++ us) (free_alike c))
    ∙ ap (λ b. b && behind) (sym ready)
    ∙ ap (λ (fs : List Formula). each_ready (map part_of fs) held) next ∙ so_far

pub held_more : (start held more : List ℕ) (cs : List Formula) (i : ℕ) (c : Formula) → i < length cs
    → c ≡ get_or cs i c → held ≡ start ++ free_in_pieces (map piece_of (take i cs))
    → more ≡ held ++ (piece_of c).free → more ≡ start ++ free_in_pieces (map piece_of (take (i + 1) cs))
held_more start held more cs i c within is so_far said =
    let free : Formula → List ℕ = λ f. (piece_of f).free in
    let before = flat_map free (take i cs) in
    let flat : (fs : List Formula) → free_in_pieces (map piece_of fs) ≡ flat_map free fs =
    λ fs. flat_map-map Piece.free piece_of fs in
    said ∙ ap (λ us. us ++ free c) (so_far ∙ ap (λ us. start ++ us) (flat (take i cs)))
    ∙ append_assoc start before (free c)
    ∙ ap (λ us. start ++ (before ++ us)) (ap free is ∙ sym (append-nil (free (get_or cs i c))))
    ∙ ap (λ us. start ++ us)
    (sym (flat (take (i + 1) cs) ∙ ap (flat_map free) (take_more cs i c within)
    ∙ flat_map-append free (take i cs) (get_or cs i c ∷ [])))
