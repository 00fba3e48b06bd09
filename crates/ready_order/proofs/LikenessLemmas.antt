-- What is arranged declares what it declared, and has the shape that it had.
use Rattle.std.proofs.Common.{◌≡◌, ℕ, Bool, true, false, cond, ◌&&◌, ◌||◌, List, [], ◌∷◌, ◌++◌, Some, None, map}
use Rattle.std.proofs.Common.{ap, ap₂, ◌∙◌, sym, refl, subst, append-nil}
use Rattle.std.specs.List.{list_all, flat_map}
use Rattle.std.specs.Option.{option_map}
use Rattle.std.specs.declared.option.Option.{Option}
use Rattle.std.proofs.lemmas.List.Folds.{list_all-map, flat_map-map}
use Rattle.rif_tree.specs.declared.tree.Formula.{Formula, map-Formula, roll-Formula}
use Rattle.rif_tree.specs.declared.tree.Formula.TheOpen.{Formula-F, And as AndLayer, Or as OrLayer, Not as NotLayer}
use Rattle.rif_tree.specs.declared.tree.Formula.TheOpen.{Exists as ExistsLayer, Frame as FrameLayer}
use Rattle.rif_tree.specs.declared.tree.Formula.TheVariants.{And, Or, Not, Exists, Frame}
use Rattle.rif_tree.specs.declared.tree.Formula.TheVariants.{rolls-And, rolls-Or, rolls-Not, rolls-Exists}
use Rattle.rif_tree.specs.declared.tree.Formula.TheVariants.{rolls-Frame}
use Rattle.rif_tree.specs.declared.tree.Term.{Term}
use Rattle.rif_tree.specs.declared.tree.Formula.TheFolds.{fold-roll-Formula}
use Rattle.rif_tree.specs.Laws.{AreSame}
use Rattle.rif_tree.specs.Variables.{has_variable, has_all}
use Rattle.rif_tree.proofs.CallerLemmas.{has_append}
use Rattle.ready_order.specs.Arranging.{Piece, piece_of, arrangement, free_in_pieces, where_none_left, both_at}
use Rattle.ready_order.specs.Arranging.{branch_at, branches_at}
use Rattle.ready_order.specs.Declarations.{declared_of, declared_step}
use Rattle.ready_order.specs.Laws.{Arranges, ends, takes}
use Rattle.ready_order.specs.Shapes.{Shape, shape_of, conjunct_where}
use Rattle.ready_order.proofs.ArrangesLemmas.{arrangement_arranges}
use Rattle.ready_order.proofs.InductionLemmas.{EachPiece, IsClosed, each_piece}
use Rattle.ready_order.proofs.ListLemmas.{has_taken, some_same}
use Rattle.ready_order.proofs.StayingLemmas.{shape_and, shape_or, shape_not, shape_exists}

-- ---- formulas that are alike

-- what is arranged is like what it was
record IsAlike (f g : Formula) : Type 0 where
  shape : shape_of g ≡ shape_of f
  declares : AreSame (declared_of g) (declared_of f)

abbrev pub is_alone : Formula → Bool
is_alone f = (shape_of f).alone

abbrev pub is_together : Formula → Bool
is_together f = (shape_of f).together

-- and so are formulas, in whatever order
pub record AreAlike (gs fs : List Formula) : Type 0 where
  pub alone : list_all is_alone gs ≡ list_all is_alone fs
  pub together : list_all is_together gs ≡ list_all is_together fs
  pub declares : AreSame (flat_map declared_of gs) (flat_map declared_of fs)

all_the_same : (fs : List Formula) → AreAlike fs fs
all_the_same fs = record { alone = refl; together = refl; declares = λ v. refl }

one_more : (f g : Formula) (fs gs : List Formula) → IsAlike f g → AreAlike gs fs → AreAlike (g ∷ gs) (f ∷ fs)
one_more f g fs gs one more = record {
  alone = ap₂ (λ a b. a && b) (ap (λ (shape : Shape). shape.alone) one.shape) more.alone;
  together = ap₂ (λ a b. a && b) (ap (λ (shape : Shape). shape.together) one.shape) more.together;
  declares = λ v.
      has_append (declared_of g) (flat_map declared_of gs) v ∙ ap₂ (λ a b. a || b) (one.declares v) (more.declares v)
      ∙ sym (has_append (declared_of f) (flat_map declared_of fs) v);
}

and_turned : (a b c : Bool) → (a && (b && c)) ≡ (b && (a && c))
and_turned true b c = refl
and_turned false true c = refl
and_turned false false c = refl

all_turned : (test : Formula → Bool) (first : List Formula) (f : Formula) (last : List Formula)
    → (test f && list_all test (first ++ last)) ≡ list_all test (first ++ f ∷ last)
all_turned test [] f last = refl
all_turned test (g ∷ first) f last =
    and_turned (test f) (test g) (list_all test (first ++ last))
    ∙ ap (λ b. test g && b) (all_turned test first f last)

-- one that stands in front may stand further on
turned_alike : (gs first : List Formula) (f : Formula) (last : List Formula) → AreAlike gs (f ∷ (first ++ last))
    → AreAlike gs (first ++ f ∷ last)
turned_alike gs first f last all = record {
  alone = all.alone ∙ all_turned is_alone first f last;
  together = all.together ∙ all_turned is_together first f last;
  declares = λ v.
      all.declares v ∙ has_append (declared_of f) (flat_map declared_of (first ++ last)) v
      ∙ sym (has_taken declared_of first f last v);
}

-- ---- at each form

declared_at : (x : Formula-F Formula) (f : Formula) → roll-Formula x ≡ f
    → declared_of f ≡ declared_step (map-Formula Formula (List ℕ) declared_of x)
declared_at x f is = ap declared_of (sym is) ∙ fold-roll-Formula (List ℕ) declared_step x

pub declared_and : (fs : List Formula) → declared_of (And fs) ≡ flat_map declared_of fs
declared_and fs = declared_at (AndLayer fs) (And fs) (rolls-And fs) ∙ flat_map-map (λ vs. vs) declared_of fs

pub declared_or : (fs : List Formula) → declared_of (Or fs) ≡ flat_map declared_of fs
declared_or fs = declared_at (OrLayer fs) (Or fs) (rolls-Or fs) ∙ flat_map-map (λ vs. vs) declared_of fs

pub declared_not : (f : Formula) → declared_of (Not f) ≡ declared_of f
declared_not f = declared_at (NotLayer f) (Not f) (rolls-Not f)

pub declared_exists : (vs : List ℕ) (f : Formula) → declared_of (Exists vs f) ≡ vs ++ declared_of f
declared_exists vs f = declared_at (ExistsLayer vs f) (Exists vs f) (rolls-Exists vs f)

pub declared_frame : (o : Term) (pairs : List (Term × Term)) → declared_of (Frame o pairs) ≡ []
declared_frame o pairs = declared_at (FrameLayer o pairs) (Frame o pairs) (rolls-Frame o pairs)

pub same_between : (us ws us' ws' : List ℕ) → us ≡ us' → ws ≡ ws' → AreSame us' ws' → AreSame us ws
same_between us ws us' ws' first second same v =
    ap (λ (vs : List ℕ). has_variable vs v) first ∙ same v ∙ ap (λ (vs : List ℕ). has_variable vs v) (sym second)

abbrev as_conjunction_shape : Bool → Shape
as_conjunction_shape alone = record { alone = false; together = alone }

and_alike : (fs gs : List Formula) → AreAlike gs fs → IsAlike (And fs) (And gs)
and_alike fs gs all = record {
  shape = shape_and gs
      ∙ ap as_conjunction_shape (list_all-map Shape.alone shape_of gs ∙ all.alone
      ∙ sym (list_all-map Shape.alone shape_of fs))
      ∙ sym (shape_and fs);
  declares = same_between (declared_of (And gs)) (declared_of (And fs)) (flat_map declared_of gs)
      (flat_map declared_of fs) (declared_and gs) (declared_and fs) all.declares;
}

or_alike : (fs gs : List Formula) → AreAlike gs fs → IsAlike (Or fs) (Or gs)
or_alike fs gs all = record {
  shape = shape_or gs
      ∙ ap conjunct_where (list_all-map Shape.together shape_of gs ∙ all.together
      ∙ sym (list_all-map Shape.together shape_of fs))
      ∙ sym (shape_or fs);
  declares = same_between (declared_of (Or gs)) (declared_of (Or fs)) (flat_map declared_of gs)
      (flat_map declared_of fs) (declared_or gs) (declared_or fs) all.declares;
}

not_alike : (f g : Formula) → IsAlike f g → IsAlike (Not f) (Not g)
not_alike f g one = record {
  shape = shape_not g ∙ ap (λ (shape : Shape). conjunct_where shape.together) one.shape ∙ sym (shape_not f);
  declares = same_between (declared_of (Not g)) (declared_of (Not f)) (declared_of g) (declared_of f)
      (declared_not g) (declared_not f) one.declares;
}

exists_alike : (vs : List ℕ) (f g : Formula) → IsAlike f g → IsAlike (Exists vs f) (Exists vs g)
exists_alike vs f g one = record {
  shape = shape_exists vs g ∙ ap (λ (shape : Shape). conjunct_where shape.together) one.shape
      ∙ sym (shape_exists vs f);
  declares = same_between (declared_of (Exists vs g)) (declared_of (Exists vs f)) (vs ++ declared_of g)
      (vs ++ declared_of f) (declared_exists vs g) (declared_exists vs f)
      (λ v.
      has_append vs (declared_of g) v ∙ ap (λ b. has_variable vs v || b) (one.declares v)
      ∙ sym (has_append vs (declared_of f) v));
}

-- ---- pieces of formulas

abbrev StaysAlike : Formula → Piece → Type 0
StaysAlike f piece = (bound : List ℕ) (g : Formula) → piece.at bound ≡ Some g → IsAlike f g

abbrev AreStaying : List Formula → List Piece → Type 0
AreStaying [] [] = Unit {0}
AreStaying [] (piece ∷ pieces) = ⊥
AreStaying (f ∷ fs) [] = ⊥
AreStaying (f ∷ fs) (piece ∷ pieces) = StaysAlike f piece × AreStaying fs pieces

each_staying : (fs : List Formula) → EachPiece StaysAlike fs → AreStaying fs (map piece_of fs)
each_staying [] all = tt
each_staying (f ∷ fs) all = (all.0, each_staying fs all.1)

none_staying : (fs : List Formula) → AreStaying fs [] → fs ≡ []
none_staying [] stay = refl
none_staying (f ∷ fs) stay = absurd stay

-- the formula of one piece among others
data Splits (before : List Piece) (piece : Piece) (behind : List Piece) : List Formula → Type 0 where
  splits : (first : List Formula) (f : Formula) (last : List Formula) → StaysAlike f piece
      → AreStaying (first ++ last) (before ++ behind) → Splits before piece behind (first ++ f ∷ last)

split_behind : (other : Piece) (g : Formula) (before : List Piece) (piece : Piece) (behind : List Piece)
    (fs : List Formula) → StaysAlike g other → Splits before piece behind fs
    → Splits (other ∷ before) piece behind (g ∷ fs)
split_behind other g before piece behind fs stays (splits first f last one others) =
    splits (g ∷ first) f last one (stays, others)

split : (before : List Piece) (piece : Piece) (behind : List Piece) (fs : List Formula)
    → AreStaying fs (before ++ piece ∷ behind) → Splits before piece behind fs
split [] piece behind [] stay = absurd stay
split [] piece behind (f ∷ fs) stay = splits [] f fs stay.0 stay.1
split (other ∷ before) piece behind [] stay = absurd stay
split (other ∷ before) piece behind (f ∷ fs) stay =
    split_behind other f before piece behind fs stay.0 (split before piece behind fs stay.1)

-- ---- what is taken, and what is left

record IsSorted (taken : List Formula) (left : List Piece) (fs : List Formula) : Type 0 where
  rest : List Formula
  stays : AreStaying rest left
  whole : AreAlike (taken ++ rest) fs

sorted_one : (bound : List ℕ) (before : List Piece) (piece : Piece) (behind : List Piece) (g : Formula)
    (more : List Formula) (left : List Piece) (fs : List Formula) → piece.at bound ≡ Some g
    → Splits before piece behind fs
    → ((others : List Formula) → AreStaying others (before ++ behind) → IsSorted more left others)
    → IsSorted (g ∷ more) left fs
sorted_one bound before piece behind g more left fs is (splits first f last one others) sort =
    let sorts = sort (first ++ last) others in
    record {
      rest = sorts.rest;
      stays = sorts.stays;
      whole = turned_alike (g ∷ (more ++ sorts.rest)) first f last
          (one_more f g (first ++ last) (more ++ sorts.rest) (one bound g is) sorts.whole);
    }

sorted : (bound : List ℕ) (pieces : List Piece) (taken : List Formula) (left : List Piece) (last : List ℕ)
    → Arranges bound pieces taken left last → (fs : List Formula) → AreStaying fs pieces → IsSorted taken left fs
sorted bound pieces taken left last (ends _ _ unready) fs stay =
    record { rest = fs; stays = stay; whole = all_the_same fs }
sorted bound pieces taken left last (takes _ before piece behind g more _ _ unready is later) fs stay =
    sorted_one bound before piece behind g more left fs is (split before piece behind fs stay)
    (λ others stays. sorted (bound ++ piece.free) (before ++ behind) more left last later others stays)

-- where none is left
all_sorted : (taken fs : List Formula) (left : List Piece) → IsSorted taken left fs → left ≡ [] → AreAlike taken fs
all_sorted taken fs left sorts none =
    let empty = none_staying sorts.rest (subst (AreStaying sorts.rest) none sorts.stays) in
    subst (λ (gs : List Formula). AreAlike gs fs)
    (ap (λ (rest : List Formula). taken ++ rest) empty ∙ append-nil taken) sorts.whole

none_left : (taken fs : List Formula) (left : List Piece) (g : Formula) → IsSorted taken left fs
    → option_map (λ gs. And gs) (where_none_left left taken) ≡ Some g → IsAlike (And fs) g
none_left taken fs (piece ∷ left) g sorts is = absurd (cc is)
none_left taken fs [] g sorts is =
    subst (IsAlike (And fs)) (some_same (And taken) g is)
    (and_alike fs taken (all_sorted taken fs [] sorts refl))

-- ---- branches

abbrev BranchAlike : Formula → Option Formula → Type 0
BranchAlike f None = Unit {0}
BranchAlike f (Some g) = IsAlike f g

abbrev BranchesAlike : List Formula → Option (List Formula) → Type 0
BranchesAlike fs None = Unit {0}
BranchesAlike fs (Some gs) = AreAlike gs fs

branch_alike : (f : Formula) (bound : List ℕ) (piece : Piece) (binds : Bool) (at : Option Formula)
    → piece.at bound ≡ at → StaysAlike f piece → BranchAlike f (cond binds at None)
branch_alike f bound piece false at is stays = tt
branch_alike f bound piece true None is stays = tt
branch_alike f bound piece true (Some g) is stays = stays bound g is

both_alike : (f : Formula) (fs : List Formula) (first : Option Formula) (others : Option (List Formula))
    → BranchAlike f first → BranchesAlike fs others → BranchesAlike (f ∷ fs) (both_at first others)
both_alike f fs None others one rest = tt
both_alike f fs (Some g) None one rest = tt
both_alike f fs (Some g) (Some gs) one rest = one_more f g fs gs one rest

branches_alike : (bound all : List ℕ) (fs : List Formula) (pieces : List Piece) → AreStaying fs pieces
    → BranchesAlike fs (branches_at bound all pieces)
branches_alike bound all [] [] stay = all_the_same []
branches_alike bound all [] (piece ∷ pieces) stay = absurd stay
branches_alike bound all (f ∷ fs) [] stay = absurd stay
branches_alike bound all (f ∷ fs) (piece ∷ pieces) stay =
    both_alike f fs (branch_at bound all piece) (branches_at bound all pieces)
    (branch_alike f bound piece (has_all (bound ++ piece.free) all) (piece.at bound) refl stay.0)
    (branches_alike bound all fs pieces stay.1)

each_kept : (fs : List Formula) (found : Option (List Formula)) (g : Formula) → BranchesAlike fs found
    → option_map (λ gs. Or gs) found ≡ Some g → IsAlike (Or fs) g
each_kept fs None g all is = absurd (cc is)
each_kept fs (Some gs) g all is = subst (IsAlike (Or fs)) (some_same (Or gs) g is) (or_alike fs gs all)

-- ---- all conjuncts

not_kept : (f : Formula) (bound : List ℕ) (piece : Piece) (binds : Bool) (at : Option Formula) (g : Formula)
    → piece.at bound ≡ at → StaysAlike f piece → cond binds (option_map (λ h. Not h) at) None ≡ Some g
    → IsAlike (Not f) g
not_kept f bound piece false at g here stays is = absurd (cc is)
not_kept f bound piece true None g here stays is = absurd (cc is)
not_kept f bound piece true (Some h) g here stays is =
    subst (IsAlike (Not f)) (some_same (Not h) g is) (not_alike f h (stays bound h here))

exists_kept : (vs : List ℕ) (f : Formula) (bound : List ℕ) (piece : Piece) (at : Option Formula) (g : Formula)
    → piece.at bound ≡ at → StaysAlike f piece → option_map (λ h. Exists vs h) at ≡ Some g → IsAlike (Exists vs f) g
exists_kept vs f bound piece None g here stays is = absurd (cc is)
exists_kept vs f bound piece (Some h) g here stays is =
    subst (IsAlike (Exists vs f)) (some_same (Exists vs h) g is) (exists_alike vs f h (stays bound h here))

plain_kept : (ready : Bool) (f g : Formula) → cond ready (Some f) None ≡ Some g → IsAlike f g
plain_kept false f g is = absurd (cc is)
plain_kept true f g is = subst (IsAlike f) (some_same f g is) (record { shape = refl; declares = λ v. refl })

alike_closed : IsClosed StaysAlike
alike_closed = record {
  conjunction = λ fs all bound g is.
      let pieces = map piece_of fs in
      let a = arrangement bound pieces in
      none_left a.taken fs a.left g
      (sorted bound pieces a.taken a.left a.bound (arrangement_arranges bound pieces) fs (each_staying fs all)) is;
  disjunction = λ fs all bound g is.
      let pieces = map piece_of fs in
      each_kept fs (branches_at bound (free_in_pieces pieces) pieces) g
      (branches_alike bound (free_in_pieces pieces) fs pieces (each_staying fs all)) is;
  negation = λ f stays bound g is.
      let piece = piece_of f in
      not_kept f bound piece (has_all bound piece.free) (piece.at bound) g refl stays is;
  existence = λ vs f stays bound g is.
      let piece = piece_of f in exists_kept vs f bound piece (piece.at bound) g refl stays is;
  plain = λ f vs is_ready plain bound g is. plain_kept (is_ready bound) f g is;
}

-- what is taken of formulas, and others that are left, are like them
pub record IsDivided (bound : List ℕ) (fs : List Formula) : Type 0 where
  pub rest : List Formula
  pub whole : AreAlike ((arrangement bound (map piece_of fs)).taken ++ rest) fs
  pub none : (arrangement bound (map piece_of fs)).left ≡ []
      → AreAlike (arrangement bound (map piece_of fs)).taken fs

pub divided : (bound : List ℕ) (fs : List Formula) → IsDivided bound fs
divided bound fs =
    let pieces = map piece_of fs in
    let a = arrangement bound pieces in
    let sorts = sorted bound pieces a.taken a.left a.bound (arrangement_arranges bound pieces) fs
    (each_staying fs (each_piece StaysAlike alike_closed fs)) in
    record { rest = sorts.rest; whole = sorts.whole; none = all_sorted a.taken fs a.left sorts }
