-- An arrangement that leaves conjuncts leaves some variable unbound that occurs in them.
use Rattle.std.proofs.Common.{◌≡◌, ℕ, ◌≤◌, Bool, true, false, not, ◌&&◌, ◌||◌, ◌==◌, ◌≢◌, min, List, []}
use Rattle.std.proofs.Common.{◌∷◌, ◌++◌}
use Rattle.std.proofs.Common.{Some, None, map, ap, ap₂, ◌∙◌, sym, refl, subst, arith}
use Rattle.std.specs.Option.{option_map}
use Rattle.std.specs.declared.option.Option.{Option}
use Rattle.std.proofs.lemmas.Bool.Decides.{nat_tests}
use Rattle.rif_tree.specs.declared.tree.Formula.{Formula}
use Rattle.rif_tree.specs.declared.tree.Formula.TheVariants.{And, Or, Not, Exists}
use Rattle.rif_tree.specs.Laws.{AreAmong}
use Rattle.rif_tree.specs.Variables.{has_variable, has_all, without}
use Rattle.rif_tree.proofs.CallerLemmas.{and_first, and_second, has_all_more, has_without, among_front, among_back}
use Rattle.rif_tree.proofs.CallerLemmas.{among_append, has_all_intro, or_first, or_second}
use Rattle.ready_order.specs.Arranging.{Piece, Arrangement, piece_of, arrangement, free_in_pieces}
use Rattle.ready_order.specs.Arranging.{occurring_in_pieces}
use Rattle.ready_order.specs.Arranging.{where_none_left, members_at, branch_at, branches_at, least_with}
use Rattle.ready_order.specs.Arranging.{least_of, least_unbound}
use Rattle.ready_order.specs.Laws.{AreUnready, Arranges, ends, takes, IsLeftUnbound, IsLeastLeft}
use Rattle.ready_order.proofs.ArrangesLemmas.{arrangement_arranges}
use Rattle.ready_order.proofs.ListLemmas.{Each, each_other, has_taken, IsThere, there_unready, none_there}
use Rattle.ready_order.proofs.ListLemmas.{both_there, test_there, map_there}
use Rattle.ready_order.proofs.InductionLemmas.{EachPiece, IsClosed, each_piece, all_within}

-- ---- how an arrangement ends

record IsEnd (bound : List ℕ) (pieces : List Piece) (left : List Piece) (last : List ℕ) : Type 0 where
  unready : AreUnready last left
  grows : AreAmong bound last
  fewer : AreAmong (occurring_in_pieces left) (occurring_in_pieces pieces)

end_of : (bound : List ℕ) (pieces : List Piece) (taken : List Formula) (left : List Piece) (last : List ℕ)
    → Arranges bound pieces taken left last → IsEnd bound pieces left last
end_of bound pieces taken left last (ends _ _ unready) = record {
  unready = unready;
  grows = λ v has. has;
  fewer = λ v has. has;
}
end_of bound pieces taken left last (takes _ before piece behind f more _ _ unready is later) =
    let rest = end_of (bound ++ piece.free) (before ++ behind) more left last later in
    record {
      unready = rest.unready;
      grows = λ v has. rest.grows v (among_front bound piece.free v has);
      fewer = λ v has. has_taken Piece.occurring before piece behind v
          ∙ or_second (has_variable piece.occurring v) (has_variable (occurring_in_pieces (before ++ behind)) v)
          (rest.fewer v has);
    }

left_each : (P : Piece → Type 0) (bound : List ℕ) (pieces : List Piece) (taken : List Formula) (left : List Piece)
    (last : List ℕ) → Arranges bound pieces taken left last → Each P pieces → Each P left
left_each P bound pieces taken left last (ends _ _ unready) all = all
left_each P bound pieces taken left last (takes _ before piece behind f more _ _ unready is later) all =
    left_each P (bound ++ piece.free) (before ++ behind) more left last later (each_other P before piece behind all)

-- ---- conjuncts that are ready once all that occurs in them is bound

record IsWilling (piece : Piece) : Type 0 where
  free : AreAmong piece.free piece.occurring
  willing : (bound : List ℕ) → has_all bound piece.occurring ≡ true → IsThere (piece.at bound)

abbrev WillingFormula : Formula → Piece → Type 0
WillingFormula f piece = IsWilling piece

each_willing : (fs : List Formula) → EachPiece WillingFormula fs → Each IsWilling (map piece_of fs)
each_willing [] all = tt
each_willing (f ∷ fs) all = (all.0, each_willing fs all.1)

none_unready : (bound : List ℕ) (left : List Piece) → Each IsWilling left
    → has_all bound (occurring_in_pieces left) ≡ true → AreUnready bound left → left ≡ []
none_unready bound [] all has unready = refl
none_unready bound (piece ∷ left) all has unready =
    absurd (there_unready (piece.at bound)
    (all.0.willing bound (all_within bound piece.occurring (piece.occurring ++ occurring_in_pieces left)
    (among_front piece.occurring (occurring_in_pieces left)) has)) unready.0)

-- nothing is left where all that occurs in what is left is bound
none_left : (bound : List ℕ) (pieces : List Piece) → Each IsWilling pieces
    → has_all (arrangement bound pieces).bound (occurring_in_pieces (arrangement bound pieces).left) ≡ true
    → (arrangement bound pieces).left ≡ []
none_left bound pieces all has =
    let a = arrangement bound pieces in
    let so = arrangement_arranges bound pieces in
    none_unready a.bound a.left (left_each IsWilling bound pieces a.taken a.left a.bound so all) has
    (end_of bound pieces a.taken a.left a.bound so).unready

and_there : (bound : List ℕ) (pieces : List Piece) → Each IsWilling pieces
    → has_all bound (occurring_in_pieces pieces) ≡ true
    → IsThere (option_map (λ fs. And fs) (members_at bound pieces))
and_there bound pieces all has =
    let a = arrangement bound pieces in
    let end = end_of bound pieces a.taken a.left a.bound (arrangement_arranges bound pieces) in
    map_there (λ fs. And fs) (where_none_left a.left a.taken) (none_there a.left a.taken
    (none_left bound pieces all (has_all_more bound a.bound (occurring_in_pieces a.left) end.grows
    (all_within bound (occurring_in_pieces a.left) (occurring_in_pieces pieces) end.fewer has))))

free_occurring : (pieces : List Piece) → Each IsWilling pieces
    → AreAmong (free_in_pieces pieces) (occurring_in_pieces pieces)
free_occurring [] all = λ v has. has
free_occurring (piece ∷ pieces) all =
    let us = piece.occurring in
    let ws = occurring_in_pieces pieces in
    among_append piece.free (free_in_pieces pieces) (us ++ ws)
    (λ v has. among_front us ws v (all.0.free v has))
    (λ v has. among_back us ws v (free_occurring pieces all.1 v has))

branches_there : (bound all : List ℕ) (pieces : List Piece) → Each IsWilling pieces → has_all bound all ≡ true
    → has_all bound (occurring_in_pieces pieces) ≡ true → IsThere (branches_at bound all pieces)
branches_there bound all [] each whole has = tt
branches_there bound all (piece ∷ pieces) each whole has =
    let us = piece.occurring in
    let ws = occurring_in_pieces pieces in
    both_there (branch_at bound all piece) (branches_at bound all pieces)
    (test_there (has_all (bound ++ piece.free) all) (piece.at bound)
    (has_all_more bound (bound ++ piece.free) all (among_front bound piece.free) whole)
    (each.0.willing bound (all_within bound us (us ++ ws) (among_front us ws) has)))
    (branches_there bound all pieces each.1 whole (all_within bound ws (us ++ ws) (among_back us ws) has))

without_among : (vs us : List ℕ) → AreAmong (without vs us) us
without_among vs us v has =
    and_first (has_variable us v) (not (has_variable vs v)) (sym (has_without vs us v) ∙ has)

willing_closed : IsClosed WillingFormula
willing_closed = record {
  conjunction = λ fs all.
      let pieces = map piece_of fs in
      let each = each_willing fs all in
      record { free = free_occurring pieces each; willing = λ bound has. and_there bound pieces each has };
  disjunction = λ fs all.
      let pieces = map piece_of fs in
      let each = each_willing fs all in
      let vs = free_in_pieces pieces in
      record {
        free = free_occurring pieces each;
        willing = λ bound has. map_there (λ gs. Or gs) (branches_at bound vs pieces)
            (branches_there bound vs pieces each
            (all_within bound vs (occurring_in_pieces pieces) (free_occurring pieces each) has) has);
      };
  negation = λ f all.
      let piece = piece_of f in
      record {
        free = all.free;
        willing = λ bound has. test_there (has_all bound piece.free) (option_map (λ g. Not g) (piece.at bound))
            (all_within bound piece.free piece.occurring all.free has)
            (map_there (λ g. Not g) (piece.at bound) (all.willing bound has));
      };
  existence = λ vs f all.
      let piece = piece_of f in
      record {
        free = λ v has. all.free v (without_among vs piece.free v has);
        willing = λ bound has. map_there (λ g. Exists vs g) (piece.at bound) (all.willing bound has);
      };
  plain = λ f vs is_ready plain. record {
    free = λ v has. has;
    willing = λ bound has. test_there (is_ready bound) (Some f) (plain.willing bound has) tt;
  };
}

-- ---- the least that is unbound

least_none : (vs : List ℕ) → least_of vs ≡ None → vs ≡ []
least_none [] is = refl
least_none (v ∷ vs) is = absurd (cc is)

none_without : (bound vs : List ℕ) → without bound vs ≡ [] → has_all bound vs ≡ true
none_without bound vs none = has_all_intro bound vs each
  where
    bound_at : (v : ℕ) (b : Bool) → has_variable bound v ≡ b → has_variable vs v ≡ true → b ≡ true
    bound_at v true is has = refl
    bound_at v false is has =
        absurd (cc (ap (λ (us : List ℕ). has_variable us v) (sym none) ∙ has_without bound vs v
        ∙ ap₂ (λ a b. a && not b) has is))

    each : AreAmong vs bound
    each v has = bound_at v (has_variable bound v) refl has

pub left_unbound : IsLeftUnbound
left_unbound bound fs = record { unbound = unbound; named = named }
  where
    a : Arrangement
    a = arrangement bound (map piece_of fs)

    unbound : has_all a.bound (occurring_in_pieces a.left) ≡ true → a.left ≡ []
    unbound has =
        none_left bound (map piece_of fs) (each_willing fs (each_piece WillingFormula willing_closed fs)) has

    named : least_unbound a ≡ None → a.left ≡ []
    named none =
        let vs = occurring_in_pieces a.left in
        unbound (none_without a.bound vs (least_none (without a.bound vs) none))

-- the least of some numbers is one of them, and none of them is less
abbrev LeastIn : List ℕ → Option ℕ → Type 0
LeastIn vs None = vs ≡ []
LeastIn vs (Some least) = (has_variable vs least ≡ true) × ((u : ℕ) → has_variable vs u ≡ true → least ≤ u)

only_one : (v u : ℕ) (vs : List ℕ) (is_it : Bool) → (v == u) ≡ is_it → vs ≡ []
    → (is_it || has_variable vs u) ≡ true → v ≤ u
only_one v u vs true is none has = let same : v ≡ u = grind (arith, nat_tests) in omega (arith, same)
only_one v u vs false is none has =
    absurd (cc (sym has ∙ ap (λ (us : List ℕ). has_variable us u) none))

one_of : (v least u : ℕ) (vs : List ℕ) (is_it : Bool) → (v == u) ≡ is_it
    → (has_variable vs u ≡ true → least ≤ u) → (is_it || has_variable vs u) ≡ true → min v least ≤ u
one_of v least u vs true is later has = let same : v ≡ u = grind (arith, nat_tests) in omega (arith, same)
one_of v least u vs false is later has = let more : least ≤ u = later has in omega (arith, more)

min_among : (v least : ℕ) (vs : List ℕ) (is_it : Bool) → (v == min v least) ≡ is_it → has_variable vs least ≡ true
    → (is_it || has_variable vs (min v least)) ≡ true
min_among v least vs true is has = refl
min_among v least vs false is has =
    let other : v ≢ min v least = grind (arith, nat_tests) in
    let same : least ≡ min v least = omega (arith, other) in
    subst (λ (u : ℕ). has_variable vs u ≡ true) same has

with_least : (v : ℕ) (vs : List ℕ) (o : Option ℕ) → LeastIn vs o → LeastIn (v ∷ vs) (Some (least_with v o))
with_least v vs None none = (
  or_first (v == v) (has_variable vs v) (grind (arith, nat_tests)),
  λ u has. only_one v u vs (v == u) refl none has,
)
with_least v vs (Some least) rest = (
  min_among v least vs (v == min v least) refl rest.0,
  λ u has. one_of v least u vs (v == u) refl (rest.1 u) has,
)

least_in : (vs : List ℕ) → LeastIn vs (least_of vs)
least_in [] = refl
least_in (v ∷ vs) = with_least v vs (least_of vs) (least_in vs)

pub least_law : IsLeastLeft
least_law a v is =
    let vs = occurring_in_pieces a.left in
    let least = subst (LeastIn (without a.bound vs)) is (least_in (without a.bound vs)) in
    let both = sym (has_without a.bound vs v) ∙ least.0 in
    record {
      occurs = and_first (has_variable vs v) (not (has_variable a.bound v)) both;
      unbound = not_true (has_variable a.bound v) (and_second (has_variable vs v) (not
          (has_variable a.bound v)) both);
      least = λ u has free. least.1 u (has_without a.bound vs u ∙ ap₂ (λ p q. p && not q) has free);
    }
  where
    not_true : (b : Bool) → not b ≡ true → b ≡ false
    not_true true is = absurd (cc is)
    not_true false is = refl
