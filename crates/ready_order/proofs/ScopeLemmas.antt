-- What is taken of scoped formulas is scoped.
use Rattle.std.proofs.Common.{◌≡◌, ℕ, Bool, true, false, cond, ◌&&◌, List, [], ◌∷◌, ◌++◌, Some, None, map, ap₂}
use Rattle.std.proofs.Common.{◌∙◌}
use Rattle.std.proofs.Common.{sym, refl, subst}
use Rattle.std.specs.List.{list_all}
use Rattle.std.specs.Option.{option_map}
use Rattle.std.specs.declared.option.Option.{Option}
use Rattle.rif_tree.specs.declared.tree.Formula.{Formula}
use Rattle.rif_tree.specs.declared.tree.Formula.TheVariants.{And, Or, Not, Exists}
use Rattle.rif_tree.specs.Scoped.{is_scoped, has_none}
use Rattle.rif_tree.specs.Variables.{has_all}
use Rattle.rif_tree.proofs.CallerLemmas.{and_first, and_second}
use Rattle.ready_order.specs.Arranging.{Piece, piece_of, arrangement, arrangement_of, free_in_pieces, where_none_left}
use Rattle.ready_order.specs.Arranging.{both_at, branch_at, branches_at}
use Rattle.ready_order.specs.Conjuncts.{conjuncts_of}
use Rattle.ready_order.specs.Laws.{Arranges, ends, takes, AreTakenScoped, IsArrangementScoped}
use Rattle.ready_order.proofs.ArrangesLemmas.{arrangement_arranges}
use Rattle.ready_order.proofs.KeepingLemmas.{scoped_and, scoped_or, scoped_not, scoped_exists, conjuncts_scoped}
use Rattle.ready_order.proofs.ListLemmas.{Each, each_one, each_other, some_same}
use Rattle.ready_order.proofs.InductionLemmas.{EachPiece, IsClosed, each_piece}

-- a conjunct that is scoped once it is arranged
abbrev StaysScoped : List ℕ → Piece → Type 0
StaysScoped held piece = (bound : List ℕ) (g : Formula) → piece.at bound ≡ Some g → is_scoped held g ≡ true

abbrev ScopedFormula : Formula → Piece → Type 0
ScopedFormula f piece = (held : List ℕ) → is_scoped held f ≡ true → StaysScoped held piece

each_scoped : (held : List ℕ) (fs : List Formula) → EachPiece ScopedFormula fs → list_all (is_scoped held) fs ≡ true
    → Each (StaysScoped held) (map piece_of fs)
each_scoped held [] all is = tt
each_scoped held (f ∷ fs) all is =
    let others = list_all (is_scoped held) fs in (
      all.0 held (and_first (is_scoped held f) others is),
      each_scoped held fs all.1 (and_second (is_scoped held f) others is),
    )

taken_scoped : (held bound : List ℕ) (pieces : List Piece) (taken : List Formula) (left : List Piece) (last : List ℕ)
    → Arranges bound pieces taken left last → Each (StaysScoped held) pieces → list_all (is_scoped held) taken ≡ true
taken_scoped held bound pieces taken left last (ends _ _ unready) all = refl
taken_scoped held bound pieces taken left last (takes _ before piece behind f more _ _ unready is later) all =
    ap₂ (λ a b. a && b) (each_one (StaysScoped held) before piece behind all bound f is)
    (taken_scoped held (bound ++ piece.free) (before ++ behind) more left last later
    (each_other (StaysScoped held) before piece behind all))

none_left : (held : List ℕ) (taken : List Formula) (left : List Piece) (g : Formula)
    → list_all (is_scoped held) taken ≡ true → option_map (λ fs. And fs) (where_none_left left taken) ≡ Some g
    → is_scoped held g ≡ true
none_left held taken (piece ∷ left) g all is = absurd (cc is)
none_left held taken [] g all is =
    subst (λ f. is_scoped held f ≡ true) (some_same (And taken) g is) (scoped_and held taken ∙ all)

abbrev ScopedBranch : List ℕ → Option Formula → Type 0
ScopedBranch held None = Unit {0}
ScopedBranch held (Some f) = is_scoped held f ≡ true

abbrev ScopedBranches : List ℕ → Option (List Formula) → Type 0
ScopedBranches held None = Unit {0}
ScopedBranches held (Some fs) = list_all (is_scoped held) fs ≡ true

branch_scoped : (held bound : List ℕ) (piece : Piece) (binds : Bool) (at : Option Formula) → piece.at bound ≡ at
    → StaysScoped held piece → ScopedBranch held (cond binds at None)
branch_scoped held bound piece false at is stays = tt
branch_scoped held bound piece true None is stays = tt
branch_scoped held bound piece true (Some f) is stays = stays bound f is

both_scoped : (held : List ℕ) (first : Option Formula) (others : Option (List Formula)) → ScopedBranch held first
    → ScopedBranches held others → ScopedBranches held (both_at first others)
both_scoped held None others one rest = tt
both_scoped held (Some f) None one rest = tt
both_scoped held (Some f) (Some fs) one rest = ap₂ (λ a b. a && b) one rest

branches_scoped : (held bound all : List ℕ) (pieces : List Piece) → Each (StaysScoped held) pieces
    → ScopedBranches held (branches_at bound all pieces)
branches_scoped held bound all [] stay = refl
branches_scoped held bound all (piece ∷ pieces) stay =
    both_scoped held (branch_at bound all piece) (branches_at bound all pieces)
    (branch_scoped held bound piece (has_all (bound ++ piece.free) all) (piece.at bound) refl stay.0)
    (branches_scoped held bound all pieces stay.1)

or_scoped : (held : List ℕ) (found : Option (List Formula)) (g : Formula) → ScopedBranches held found
    → option_map (λ fs. Or fs) found ≡ Some g → is_scoped held g ≡ true
or_scoped held None g all is = absurd (cc is)
or_scoped held (Some fs) g all is =
    subst (λ f. is_scoped held f ≡ true) (some_same (Or fs) g is) (scoped_or held fs ∙ all)

not_scoped : (held bound : List ℕ) (piece : Piece) (binds : Bool) (at : Option Formula) (g : Formula)
    → piece.at bound ≡ at → StaysScoped held piece → cond binds (option_map (λ f. Not f) at) None ≡ Some g
    → is_scoped held g ≡ true
not_scoped held bound piece false at g here stays is = absurd (cc is)
not_scoped held bound piece true None g here stays is = absurd (cc is)
not_scoped held bound piece true (Some f) g here stays is =
    subst (λ h. is_scoped held h ≡ true) (some_same (Not f) g is) (scoped_not held f ∙ stays bound f here)

exists_scoped : (held vs bound : List ℕ) (piece : Piece) (at : Option Formula) (g : Formula) → piece.at bound ≡ at
    → StaysScoped (held ++ vs) piece → has_none held vs ≡ true → option_map (λ f. Exists vs f) at ≡ Some g
    → is_scoped held g ≡ true
exists_scoped held vs bound piece None g here stays apart is = absurd (cc is)
exists_scoped held vs bound piece (Some f) g here stays apart is =
    subst (λ h. is_scoped held h ≡ true) (some_same (Exists vs f) g is)
    (scoped_exists held vs f ∙ ap₂ (λ a b. a && b) apart (stays bound f here))

plain_scoped : (held : List ℕ) (ready : Bool) (f g : Formula) → is_scoped held f ≡ true
    → cond ready (Some f) None ≡ Some g → is_scoped held g ≡ true
plain_scoped held false f g scoped is = absurd (cc is)
plain_scoped held true f g scoped is = subst (λ h. is_scoped held h ≡ true) (some_same f g is) scoped

scoped_closed : IsClosed ScopedFormula
scoped_closed = record {
  conjunction = λ fs all held scoped bound g is.
      let pieces = map piece_of fs in
      let a = arrangement bound pieces in
      none_left held a.taken a.left g
      (taken_scoped held bound pieces a.taken a.left a.bound (arrangement_arranges bound pieces)
      (each_scoped held fs all (sym (scoped_and held fs) ∙ scoped))) is;
  disjunction = λ fs all held scoped bound g is.
      let pieces = map piece_of fs in
      or_scoped held (branches_at bound (free_in_pieces pieces) pieces) g
      (branches_scoped held bound (free_in_pieces pieces) pieces
      (each_scoped held fs all (sym (scoped_or held fs) ∙ scoped))) is;
  negation = λ f all held scoped bound g is.
      let piece = piece_of f in
      not_scoped held bound piece (has_all bound piece.free) (piece.at bound) g refl
      (all held (sym (scoped_not held f) ∙ scoped)) is;
  existence = λ vs f all held scoped bound g is.
      let piece = piece_of f in
      let both = sym (scoped_exists held vs f) ∙ scoped in
      exists_scoped held vs bound piece (piece.at bound) g refl
      (all (held ++ vs) (and_second (has_none held vs) (is_scoped (held ++ vs) f) both))
      (and_first (has_none held vs) (is_scoped (held ++ vs) f) both) is;
  plain = λ f vs is_ready plain held scoped bound g is. plain_scoped held (is_ready bound) f g scoped is;
}

pub each_taken_scoped : AreTakenScoped
each_taken_scoped held bound fs scoped =
    let pieces = map piece_of fs in
    let a = arrangement bound pieces in
    taken_scoped held bound pieces a.taken a.left a.bound (arrangement_arranges bound pieces)
    (each_scoped held fs (each_piece ScopedFormula scoped_closed fs) scoped)

pub arrangement_scoped : IsArrangementScoped
arrangement_scoped held f scoped =
    scoped_and held (arrangement_of f).taken
    ∙ each_taken_scoped held [] (conjuncts_of f)
    (sym (scoped_and held (conjuncts_of f)) ∙ conjuncts_scoped f held ∙ scoped)
