-- An arrangement is what comes of taking the first that is ready again and again.
use Rattle.std.proofs.Common.{◌≡◌, ℕ, zero, suc, ◌+◌, ◌≤◌, List, [], ◌∷◌, ◌++◌, length, Some, None, ap, ◌∙◌}
use Rattle.std.proofs.Common.{refl, subst}
use Rattle.std.proofs.Common.{arith, length-append}
use Rattle.std.specs.declared.option.Option.{Option}
use Rattle.std.specs.Option.{option_map}
use Rattle.rif_tree.specs.declared.tree.Formula.{Formula}
use Rattle.ready_order.specs.Arranging.{Piece, Taking, Arrangement, left_before, taken_or, first_ready, taking_on}
use Rattle.ready_order.specs.Arranging.{taking_up_to, arrangement}
use Rattle.ready_order.specs.Laws.{AreUnready, Arranges, ends, takes, IsArrangementTaking}

-- the first that is ready, as it stands among the others
data IsFirst (bound : List ℕ) : List Piece → Taking → Type 0 where
  first : (before : List Piece) (piece : Piece) (behind : List Piece) (f : Formula) → AreUnready bound before
      → piece.at bound ≡ Some f
      → IsFirst bound (before ++ piece ∷ behind) (record { taken = f; binds = piece.free; left = before ++ behind })

abbrev IsFound : List ℕ → List Piece → Option Taking → Type 0
IsFound bound pieces None = AreUnready bound pieces
IsFound bound pieces (Some taking) = IsFirst bound pieces taking

first_behind : (bound : List ℕ) (piece : Piece) (pieces : List Piece) (taking : Taking) → piece.at bound ≡ None
    → IsFirst bound pieces taking → IsFirst bound (piece ∷ pieces) (left_before (piece ∷ []) taking)
first_behind bound piece pieces taking unready (first before next behind f all is) =
    first (piece ∷ before) next behind f (unready, all) is

found_or : (bound : List ℕ) (piece : Piece) (pieces : List Piece) (at : Option Formula) (later : Option Taking)
    → piece.at bound ≡ at → IsFound bound pieces later
    → IsFound bound (piece ∷ pieces) (taken_or piece pieces at later)
found_or bound piece pieces None None is found = (is, found)
found_or bound piece pieces None (Some taking) is found = first_behind bound piece pieces taking is found
found_or bound piece pieces (Some f) later is found = first [] piece pieces f tt is

first_found : (bound : List ℕ) (pieces : List Piece) → IsFound bound pieces (first_ready bound pieces)
first_found bound [] = tt
first_found bound (piece ∷ pieces) =
    found_or bound piece pieces (piece.at bound) (first_ready bound pieces) refl (first_found bound pieces)

pub none_unready : (bound : List ℕ) (pieces : List Piece) → first_ready bound pieces ≡ None
    → AreUnready bound pieces
none_unready bound pieces none = subst (IsFound bound pieces) none (first_found bound pieces)

-- an arrangement by the relation
abbrev pub ArrangesTo : List ℕ → List Piece → Arrangement → Type 0
ArrangesTo bound pieces a = Arranges bound pieces a.taken a.left a.bound

abbrev ArrangesWithin : ℕ → (List ℕ → List Piece → Arrangement) → Type 0
ArrangesWithin most others = (bound : List ℕ) (pieces : List Piece) → length pieces ≤ most
    → ArrangesTo bound pieces (others bound pieces)

one_less : (before : List Piece) (piece : Piece) (behind : List Piece) (most : ℕ)
    → length (before ++ piece ∷ behind) ≤ suc most → length (before ++ behind) ≤ most
one_less before piece behind most few =
    let all : length (before ++ piece ∷ behind) ≡ length before + suc (length behind) =
    length-append before (piece ∷ behind) in
    let others : length (before ++ behind) ≡ length before + length behind = length-append before behind in
    omega (arith, few, all, others)

first_taken : (most : ℕ) (others : List ℕ → List Piece → Arrangement) (bound : List ℕ) (pieces : List Piece)
    (taking : Taking) → ArrangesWithin most others → length pieces ≤ suc most → IsFirst bound pieces taking
    → ArrangesTo bound pieces (taking_on others bound pieces (Some taking))
first_taken most others bound pieces taking later few (first before piece behind f all is) =
    let more = others (bound ++ piece.free) (before ++ behind) in
    takes bound before piece behind f more.taken more.left more.bound all is
    (later (bound ++ piece.free) (before ++ behind) (one_less before piece behind most few))

found_taken : (most : ℕ) (others : List ℕ → List Piece → Arrangement) (bound : List ℕ) (pieces : List Piece)
    (found : Option Taking) → ArrangesWithin most others → length pieces ≤ suc most → IsFound bound pieces found
    → ArrangesTo bound pieces (taking_on others bound pieces found)
found_taken most others bound pieces None later few is = ends bound pieces is
found_taken most others bound pieces (Some taking) later few is =
    first_taken most others bound pieces taking later few is

taking_arranges : (most : ℕ) → ArrangesWithin most (taking_up_to most)
taking_arranges zero bound [] few = ends bound [] tt
taking_arranges zero bound (piece ∷ pieces) few = let no : ⊥ = omega (arith, few) in absurd no
taking_arranges (suc most) bound pieces few =
    found_taken most (taking_up_to most) bound pieces (first_ready bound pieces) (taking_arranges most) few
    (first_found bound pieces)

pub arrangement_arranges : (bound : List ℕ) (pieces : List Piece)
    → Arranges bound pieces (arrangement bound pieces).taken (arrangement bound pieces).left
    (arrangement bound pieces).bound
arrangement_arranges bound pieces = taking_arranges (length pieces) bound pieces (omega arith)

-- two ways to arrange the same come to the same
none_first : (bound : List ℕ) (pieces : List Piece) → AreUnready bound pieces → first_ready bound pieces ≡ None
none_first bound [] all = refl
none_first bound (piece ∷ pieces) all =
    ap (λ (at : Option Formula). taken_or piece pieces at (first_ready bound pieces)) all.0
    ∙ ap (option_map (left_before (piece ∷ []))) (none_first bound pieces all.1)

first_first : (bound : List ℕ) (before : List Piece) (piece : Piece) (behind : List Piece) (f : Formula)
    → AreUnready bound before → piece.at bound ≡ Some f
    → first_ready bound (before ++ piece ∷ behind)
    ≡ Some (record { taken = f; binds = piece.free; left = before ++ behind })
first_first bound [] piece behind f all is =
    ap (λ (at : Option Formula). taken_or piece behind at (first_ready bound behind)) is
first_first bound (other ∷ before) piece behind f all is =
    ap (λ (at : Option Formula). taken_or other (before ++ piece ∷ behind) at
    (first_ready bound (before ++ piece ∷ behind))) all.0
    ∙ ap (option_map (left_before (other ∷ []))) (first_first bound before piece behind f all.1 is)

abbrev arranged_as : List Formula → List Piece → List ℕ → Arrangement
arranged_as taken left last = record { taken = taken; left = left; bound = last }

-- what is taken this often at most, where so many pieces are there at most
taken_alone : (bound : List ℕ) (pieces : List Piece) (taken : List Formula) (left : List Piece) (last : List ℕ)
    → Arranges bound pieces taken left last → (most : ℕ) → length pieces ≤ most
    → taking_up_to most bound pieces ≡ arranged_as taken left last
taken_alone bound pieces taken left last (ends _ _ all) zero few = refl
taken_alone bound pieces taken left last (ends _ _ all) (suc most) few =
    ap (taking_on (taking_up_to most) bound pieces) (none_first bound pieces all)
taken_alone bound pieces taken left last (takes _ before piece behind f more _ _ all is later) zero few =
    let whole : length (before ++ piece ∷ behind) ≡ length before + suc (length behind) =
    length-append before (piece ∷ behind) in
    let no : ⊥ = omega (arith, few, whole) in absurd no
taken_alone bound pieces taken left last (takes _ before piece behind f more _ _ all is later) (suc most) few =
    ap (taking_on (taking_up_to most) bound (before ++ piece ∷ behind))
    (first_first bound before piece behind f all is)
    ∙ ap (λ (a : Arrangement). arranged_as (f ∷ a.taken) a.left a.bound)
    (taken_alone (bound ++ piece.free) (before ++ behind) more left last later most
    (one_less before piece behind most few))

pub taking_law : IsArrangementTaking
taking_law = record {
  so = arrangement_arranges;
  alone = λ bound pieces taken left last so.
      taken_alone bound pieces taken left last so (length pieces) (omega arith);
}
