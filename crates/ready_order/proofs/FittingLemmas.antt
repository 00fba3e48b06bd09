-- What is arranged is ready, and has the same variables free.
use Rattle.std.proofs.Common.{◌≡◌, ℕ, Bool, true, false, cond, not, ◌&&◌, ◌||◌, List, [], ◌∷◌, ◌++◌, Some, None}
use Rattle.std.proofs.Common.{map, ap}
use Rattle.std.proofs.Common.{ap₂, ◌∙◌, sym, refl, subst, append-nil}
use Rattle.std.specs.List.{list_all}
use Rattle.std.specs.Option.{option_map}
use Rattle.std.specs.declared.option.Option.{Option}
use Rattle.rif_tree.specs.declared.tree.Formula.{Formula}
use Rattle.rif_tree.specs.declared.tree.Formula.TheVariants.{And, Or, Not, Exists}
use Rattle.rif_tree.specs.Laws.{AreSame, IsReadinessOfMembers}
use Rattle.rif_tree.specs.Ready.{Part, part_of, free_in, each_ready, branch_ready, is_ready}
use Rattle.rif_tree.specs.Variables.{has_variable, has_all, without, free_of}
use Rattle.rif_tree.proofs.CallerLemmas.{and_first, and_second, has_append, has_all_same, same_more, among_same}
use Rattle.rif_tree.proofs.CallerLemmas.{has_without, part_and, part_or, part_not, part_exists, part_free}
use Rattle.ready_order.specs.Arranging.{Piece, piece_of, arrangement, free_in_pieces, where_none_left}
use Rattle.ready_order.specs.Arranging.{members_at, both_at, branch_at, branches_at}
use Rattle.ready_order.specs.Laws.{Arranges, ends, takes, IsArrangedReady, AreTakenReady}
use Rattle.ready_order.proofs.ArrangesLemmas.{arrangement_arranges}
use Rattle.ready_order.proofs.ListLemmas.{Each, each_one, each_other, some_same, same_append, same_on}
use Rattle.ready_order.proofs.ListLemmas.{same_equal, same_grouped, has_taken, or_grouped}
use Rattle.ready_order.proofs.InductionLemmas.{IsPlain, EachPiece, IsClosed, piece_induction, each_piece, all_within}

-- a formula that is ready, and has these variables free
record IsFitting (bound vs : List ℕ) (g : Formula) : Type 0 where
  ready : is_ready bound g ≡ true
  free : AreSame (part_of g).free vs

-- a conjunct that fits, once it is arranged
abbrev IsFair : Piece → Type 0
IsFair piece = (bound : List ℕ) (g : Formula) → piece.at bound ≡ Some g → IsFitting bound piece.free g

abbrev FairFormula : Formula → Piece → Type 0
FairFormula f piece = IsFair piece

each_fair : (fs : List Formula) → EachPiece FairFormula fs → Each IsFair (map piece_of fs)
each_fair [] all = tt
each_fair (f ∷ fs) all = (all.0, each_fair fs all.1)

-- ---- what is taken in turn is ready in turn

abbrev parts_of : List Formula → List Part
parts_of fs = map part_of fs

each_alike : IsReadinessOfMembers → (fs : List Formula) (us vs : List ℕ) → AreSame us vs
    → each_ready (parts_of fs) us ≡ each_ready (parts_of fs) vs
each_alike alike [] us vs same = refl
each_alike alike (f ∷ fs) us vs same =
    let free = (part_of f).free in
    ap₂ (λ a b. a && b) (alike f us vs same)
    (each_alike alike fs (us ++ free) (vs ++ free) (same_more us vs free same))

record IsOutcome (bound : List ℕ) (pieces : List Piece) (taken : List Formula) (left : List Piece) (last : List ℕ)
    : Type 0 where
  ready : each_ready (parts_of taken) bound ≡ true
  whole : AreSame (free_in (parts_of taken) ++ free_in_pieces left) (free_in_pieces pieces)
  binds : AreSame (bound ++ free_in (parts_of taken)) last

outcome : IsReadinessOfMembers → (bound : List ℕ) (pieces : List Piece) (taken : List Formula) (left : List Piece)
    (last : List ℕ) → Arranges bound pieces taken left last → Each IsFair pieces
    → IsOutcome bound pieces taken left last
outcome alike bound pieces taken left last (ends _ _ unready) fair = record {
  ready = refl;
  whole = λ v. refl;
  binds = same_equal (bound ++ []) bound (append-nil bound);
}
outcome alike bound pieces taken left last (takes _ before piece behind f more _ _ unready is later) fair =
    let fit = each_one IsFair before piece behind fair bound f is in
    let rest = outcome alike (bound ++ piece.free) (before ++ behind) more left last later
    (each_other IsFair before piece behind fair) in
    let us = (part_of f).free in
    let ws = free_in (parts_of more) in
    let first : AreSame (bound ++ us) (bound ++ piece.free) =
    same_append bound bound us piece.free (λ v. refl) fit.free in
    record {
      ready = ap₂ (λ a b. a && b) fit.ready
          (each_alike alike more (bound ++ us) (bound ++ piece.free) first ∙ rest.ready);
      whole = λ v.
          has_append (us ++ ws) (free_in_pieces left) v
          ∙ ap (λ b. b || has_variable (free_in_pieces left) v) (has_append us ws v)
          ∙ or_grouped (has_variable us v) (has_variable ws v) (has_variable (free_in_pieces left) v)
          ∙ ap₂ (λ a b. a || b) (fit.free v) (sym (has_append ws (free_in_pieces left) v) ∙ rest.whole v)
          ∙ sym (has_taken Piece.free before piece behind v);
      binds = same_grouped bound us ws last
          (same_on ((bound ++ us) ++ ws) ((bound ++ piece.free) ++ ws) last
          (same_more (bound ++ us) (bound ++ piece.free) ws first) rest.binds);
    }

none_left : (bound vs : List ℕ) (taken : List Formula) (left : List Piece) (g : Formula)
    → each_ready (parts_of taken) bound ≡ true → AreSame (free_in (parts_of taken) ++ free_in_pieces left) vs
    → option_map (λ fs. And fs) (where_none_left left taken) ≡ Some g → IsFitting bound vs g
none_left bound vs taken (piece ∷ left) g ready whole is = absurd (cc is)
none_left bound vs taken [] g ready whole is =
    let fit : IsFitting bound vs (And taken) = record {
      ready = ap (λ (p : Part). p.is_ready bound) (part_and taken) ∙ ready;
      free = λ v. ap (λ (p : Part). has_variable p.free v) (part_and taken)
          ∙ same_equal (free_in (parts_of taken)) (free_in (parts_of taken) ++ [])
          (sym (append-nil (free_in (parts_of taken)))) v ∙ whole v;
    } in
    subst (IsFitting bound vs) (some_same (And taken) g is) fit

and_fair : IsReadinessOfMembers → (bound : List ℕ) (pieces : List Piece) (g : Formula) → Each IsFair pieces
    → option_map (λ fs. And fs) (members_at bound pieces) ≡ Some g → IsFitting bound (free_in_pieces pieces) g
and_fair alike bound pieces g fair is =
    let a = arrangement bound pieces in
    let out = outcome alike bound pieces a.taken a.left a.bound (arrangement_arranges bound pieces) fair in
    none_left bound (free_in_pieces pieces) a.taken a.left g out.ready out.whole is

-- ---- branches

abbrev FairBranch : List ℕ → List ℕ → List ℕ → Option Formula → Type 0
FairBranch bound all vs None = Unit {0}
FairBranch bound all vs (Some f) = (branch_ready bound all (part_of f) ≡ true) × AreSame (part_of f).free vs

abbrev FairBranches : List ℕ → List ℕ → List ℕ → Option (List Formula) → Type 0
FairBranches bound all vs None = Unit {0}
FairBranches bound all vs (Some fs) =
    (list_all (branch_ready bound all) (parts_of fs) ≡ true) × AreSame (free_in (parts_of fs)) vs

branch_fair : (bound all : List ℕ) (piece : Piece) (binds : Bool) (at : Option Formula)
    → has_all (bound ++ piece.free) all ≡ binds → piece.at bound ≡ at → IsFair piece
    → FairBranch bound all piece.free (cond binds at None)
branch_fair bound all piece false at has is fair = tt
branch_fair bound all piece true None has is fair = tt
branch_fair bound all piece true (Some f) has is fair =
    let fit = fair bound f is in
    let us = (part_of f).free in (
      ap₂ (λ a b. a && b) fit.ready
          (has_all_same (bound ++ us) (bound ++ piece.free) all
          (same_append bound bound us piece.free (λ v. refl) fit.free) ∙ has),
      fit.free,
    )

both_fair : (bound all vs ws : List ℕ) (first : Option Formula) (others : Option (List Formula))
    → FairBranch bound all vs first → FairBranches bound all ws others
    → FairBranches bound all (vs ++ ws) (both_at first others)
both_fair bound all vs ws None others fair rest = tt
both_fair bound all vs ws (Some f) None fair rest = tt
both_fair bound all vs ws (Some f) (Some fs) fair rest =
    (ap₂ (λ a b. a && b) fair.0 rest.0, same_append (part_of f).free vs (free_in (parts_of fs)) ws fair.1 rest.1)

branches_fair : (bound all : List ℕ) (pieces : List Piece) → Each IsFair pieces
    → FairBranches bound all (free_in_pieces pieces) (branches_at bound all pieces)
branches_fair bound all [] fair = (refl, λ v. refl)
branches_fair bound all (piece ∷ pieces) fair =
    both_fair bound all piece.free (free_in_pieces pieces) (branch_at bound all piece) (branches_at bound all pieces)
    (branch_fair bound all piece (has_all (bound ++ piece.free) all) (piece.at bound) refl refl fair.0)
    (branches_fair bound all pieces fair.1)

-- what binds the ones binds the others that are the same
branches_alike : (bound all ws : List ℕ) (parts : List Part) → AreSame ws all
    → list_all (branch_ready bound all) parts ≡ true → list_all (branch_ready bound ws) parts ≡ true
branches_alike bound all ws [] same is = refl
branches_alike bound all ws (part ∷ parts) same is =
    let here = branch_ready bound all part in
    let rest = list_all (branch_ready bound all) parts in
    let one = and_first here rest is in
    let has = has_all (bound ++ part.free) all in
    ap₂ (λ a b. a && b)
    (ap₂ (λ a b. a && b) (and_first (part.is_ready bound) has one)
    (all_within (bound ++ part.free) ws all (among_same ws all same) (and_second (part.is_ready bound) has one)))
    (branches_alike bound all ws parts same (and_second here rest is))

or_fair : (bound vs : List ℕ) (found : Option (List Formula)) (g : Formula) → FairBranches bound vs vs found
    → option_map (λ fs. Or fs) found ≡ Some g → IsFitting bound vs g
or_fair bound vs None g fair is = absurd (cc is)
or_fair bound vs (Some fs) g fair is =
    let fit : IsFitting bound vs (Or fs) = record {
      ready = ap (λ (p : Part). p.is_ready bound) (part_or fs)
          ∙ branches_alike bound vs (free_in (parts_of fs)) (parts_of fs) fair.1 fair.0;
      free = λ v. ap (λ (p : Part). has_variable p.free v) (part_or fs) ∙ fair.1 v;
    } in
    subst (IsFitting bound vs) (some_same (Or fs) g is) fit

-- ---- the formula inside another

not_fair : (bound : List ℕ) (piece : Piece) (binds : Bool) (at : Option Formula) (g : Formula)
    → has_all bound piece.free ≡ binds → piece.at bound ≡ at → IsFair piece
    → cond binds (option_map (λ f. Not f) at) None ≡ Some g → IsFitting bound piece.free g
not_fair bound piece false at g has here fair is = absurd (cc is)
not_fair bound piece true None g has here fair is = absurd (cc is)
not_fair bound piece true (Some f) g has here fair is =
    let inner = fair bound f here in
    let us = (part_of f).free in
    let fit : IsFitting bound piece.free (Not f) = record {
      ready = ap (λ (p : Part). p.is_ready bound) (part_not f)
          ∙ ap₂ (λ a b. a && b) (all_within bound us piece.free
          (among_same us piece.free inner.free) has) inner.ready;
      free = λ v. ap (λ (p : Part). has_variable p.free v) (part_not f) ∙ inner.free v;
    } in
    subst (IsFitting bound piece.free) (some_same (Not f) g is) fit

exists_fair : (bound ws : List ℕ) (piece : Piece) (at : Option Formula) (g : Formula) → piece.at bound ≡ at
    → IsFair piece → option_map (λ f. Exists ws f) at ≡ Some g → IsFitting bound (without ws piece.free) g
exists_fair bound ws piece None g here fair is = absurd (cc is)
exists_fair bound ws piece (Some f) g here fair is =
    let inner = fair bound f here in
    let us = (part_of f).free in
    let fit : IsFitting bound (without ws piece.free) (Exists ws f) = record {
      ready = ap (λ (p : Part). p.is_ready bound) (part_exists ws f) ∙ inner.ready;
      free = λ v. ap (λ (p : Part). has_variable p.free v) (part_exists ws f) ∙ has_without ws us v
          ∙ ap (λ b. b && not (has_variable ws v)) (inner.free v) ∙ sym (has_without ws piece.free v);
    } in
    subst (IsFitting bound (without ws piece.free)) (some_same (Exists ws f) g is) fit

plain_at : (f : Formula) (vs : List ℕ) (is_ready_at : List ℕ → Bool) → IsPlain f vs is_ready_at → (bound : List ℕ)
    (g : Formula) (ready : Bool) → is_ready_at bound ≡ ready → cond ready
    (Some f) None ≡ Some g → IsFitting bound vs g
plain_at f vs is_ready_at plain bound g false here is = absurd (cc is)
plain_at f vs is_ready_at plain bound g true here is =
    let fit : IsFitting bound vs f = record {
      ready = ap (λ (p : Part). p.is_ready bound) plain.part ∙ here;
      free = λ v. ap (λ (p : Part). has_variable p.free v) plain.part;
    } in
    subst (IsFitting bound vs) (some_same f g is) fit

-- ---- all formulas

fair_closed : IsReadinessOfMembers → IsClosed FairFormula
fair_closed alike = record {
  conjunction = λ fs all bound g is. and_fair alike bound (map piece_of fs) g (each_fair fs all) is;
  disjunction = λ fs all bound g is.
      let pieces = map piece_of fs in
      let vs = free_in_pieces pieces in
      or_fair bound vs (branches_at bound vs pieces) g (branches_fair bound vs pieces (each_fair fs all)) is;
  negation = λ f fair bound g is.
      let piece = piece_of f in
      not_fair bound piece (has_all bound piece.free) (piece.at bound) g refl refl fair is;
  existence = λ vs f fair bound g is.
      let piece = piece_of f in exists_fair bound vs piece (piece.at bound) g refl fair is;
  plain = λ f vs is_ready_at plain bound g is.
      plain_at f vs is_ready_at plain bound g (is_ready_at bound) refl is;
}

abbrev FreeAlike : Formula → Piece → Type 0
FreeAlike f piece = piece.free ≡ (part_of f).free

pieces_alike : (fs : List Formula) → EachPiece FreeAlike fs → free_in_pieces (map piece_of fs) ≡ free_in (parts_of fs)
pieces_alike [] all = refl
pieces_alike (f ∷ fs) all = ap₂ (λ us ws. us ++ ws) all.0 (pieces_alike fs all.1)

free_closed : IsClosed FreeAlike
free_closed = record {
  conjunction = λ fs all. pieces_alike fs all ∙ sym (ap (λ (p : Part). p.free) (part_and fs));
  disjunction = λ fs all. pieces_alike fs all ∙ sym (ap (λ (p : Part). p.free) (part_or fs));
  negation = λ f is. is ∙ sym (ap (λ (p : Part). p.free) (part_not f));
  existence = λ vs f is. ap (without vs) is ∙ sym (ap (λ (p : Part). p.free) (part_exists vs f));
  plain = λ f vs is_ready_at plain. sym (ap (λ (p : Part). p.free) plain.part);
}

-- a conjunct has free what its formula has
pub piece_free : (f : Formula) → (piece_of f).free ≡ free_of f
piece_free f = piece_induction FreeAlike free_closed f ∙ part_free f

pub pieces_free : (fs : List Formula) → free_in_pieces (map piece_of fs) ≡ free_of (And fs)
pieces_free fs =
    pieces_alike fs (each_piece FreeAlike free_closed fs) ∙ sym (ap (λ (p : Part). p.free) (part_and fs))
    ∙ part_free (And fs)

pub arranged_law : IsReadinessOfMembers → IsArrangedReady
arranged_law alike bound f g is =
    let fit = piece_induction FairFormula (fair_closed alike) f bound g is in (
      fit.ready,
      same_on (free_of g) (part_of g).free (free_of f) (same_equal (free_of g) (part_of g).free (sym (part_free g)))
          (same_on (part_of g).free (piece_of f).free (free_of f) fit.free
          (same_equal (piece_of f).free (free_of f) (piece_free f))),
    )

-- what comes of the arrangement of formulas
pub record IsAnswer (bound : List ℕ) (fs : List Formula) (taken : List Formula) (left : List Piece) (last : List ℕ)
    : Type 0 where
  pub ready : each_ready (parts_of taken) bound ≡ true
  pub whole : AreSame (free_of (And taken) ++ free_in_pieces left) (free_of (And fs))
  pub binds : AreSame (bound ++ free_of (And taken)) last

pub answer : IsReadinessOfMembers → (bound : List ℕ) (fs : List Formula)
    → let a = arrangement bound (map piece_of fs) in IsAnswer bound fs a.taken a.left a.bound
answer alike bound fs =
    let pieces = map piece_of fs in
    let a = arrangement bound pieces in
    let out = outcome alike bound pieces a.taken a.left a.bound (arrangement_arranges bound pieces)
    (each_fair fs (each_piece FairFormula (fair_closed alike) fs)) in
    let free : free_in (parts_of a.taken) ≡ free_of (And a.taken) =
    sym (ap (λ (p : Part). p.free) (part_and a.taken)) ∙ part_free (And a.taken) in
    record {
      ready = out.ready;
      whole = λ v. ap (λ (us : List ℕ). has_variable (us ++ free_in_pieces a.left) v) (sym free) ∙ out.whole v
          ∙ same_equal (free_in_pieces pieces) (free_of (And fs)) (pieces_free fs) v;
      binds = subst (λ (us : List ℕ). AreSame (bound ++ us) a.bound) free out.binds;
    }

pub taken_law : IsReadinessOfMembers → AreTakenReady
taken_law alike bound fs =
    let a = arrangement bound (map piece_of fs) in
    let out = answer alike bound fs in
    record {
      in_turn = out.ready;
      together = ap (λ (p : Part). p.is_ready bound) (part_and a.taken) ∙ out.ready;
      binds = out.binds;
    }
