-- What stands ready in the shape of arranged conditions is left as it is.
use Rattle.std.proofs.Common.{◌≡◌, ℕ, Bool, true, false, cond, List, [], ◌∷◌, ◌++◌, Some, None, map, ap, ap₂}
use Rattle.std.proofs.Common.{◌&&◌, ◌==◌, length, ◌∙◌, sym, refl, subst, append_assoc, arith}
use Rattle.std.proofs.lemmas.Bool.Decides.{nat_tests}
use Rattle.std.proofs.lemmas.List.{append-nil}
use Rattle.std.specs.List.{list_all, flat_map}
use Rattle.std.specs.Option.{option_map}
use Rattle.rif_tree.specs.declared.tree.Term.{Term}
use Rattle.rif_tree.specs.declared.tree.Formula.{Formula, map-Formula, roll-Formula}
use Rattle.rif_tree.specs.declared.tree.Formula.TheOpen.{Formula-F, And as AndLayer, Or as OrLayer, Not as NotLayer}
use Rattle.rif_tree.specs.declared.tree.Formula.TheOpen.{Exists as ExistsLayer, Frame as FrameLayer}
use Rattle.rif_tree.specs.declared.tree.Formula.TheVariants.{And, Or, Not, Exists, Frame}
use Rattle.rif_tree.specs.declared.tree.Formula.TheVariants.{rolls-And, rolls-Or, rolls-Not, rolls-Exists}
use Rattle.rif_tree.specs.declared.tree.Formula.TheVariants.{rolls-Frame}
use Rattle.rif_tree.specs.declared.tree.Formula.TheFolds.{fold-roll-Formula}
use Rattle.rif_tree.specs.Ready.{Part, part_of, free_in, each_ready, branch_ready, is_ready}
use Rattle.rif_tree.specs.Variables.{has_all, without}
use Rattle.rif_tree.proofs.CallerLemmas.{and_first, and_second, part_and, part_or, part_not, part_exists}
use Rattle.ready_order.specs.Arranging.{Piece, Arrangement, piece_of, arrangement}
use Rattle.ready_order.specs.Arranging.{free_in_pieces, where_none_left, both_at, branch_at, branches_at}
use Rattle.ready_order.specs.Conjuncts.{conjuncts_of, slots_of}
use Rattle.ready_order.specs.Laws.{Arranges, ends, takes, IsReadyArranged, IsArrangedStaying}
use Rattle.ready_order.specs.Shapes.{Shape, has_one, shape_of, shape_step}
use Rattle.ready_order.proofs.ArrangesLemmas.{taking_law}
use Rattle.ready_order.proofs.KeepingLemmas.{EachFormula, IsKept, as_conjunction, conjunct_induction}
use Rattle.ready_order.proofs.InductionLemmas.{EachPiece, IsClosed, piece_induction, each_piece}

-- ---- what stands ready is arranged as it stands

record IsStaying (f : Formula) (piece : Piece) : Type 0 where
  free : piece.free ≡ (part_of f).free
  stays : (bound : List ℕ) → is_ready bound f ≡ true → piece.at bound ≡ Some f

pieces_alike : (fs : List Formula) → EachPiece IsStaying fs
    → free_in_pieces (map piece_of fs) ≡ free_in (map part_of fs)
pieces_alike [] all = refl
pieces_alike (f ∷ fs) all = ap₂ (λ us ws. us ++ ws) all.0.free (pieces_alike fs all.1)

-- all are taken in their order
abbrev InOrder : List ℕ → List Formula → Type 0
InOrder bound fs = Arranges bound (map piece_of fs) fs [] (bound ++ free_in_pieces (map piece_of fs))

each_in_order : (fs : List Formula) → EachPiece IsStaying fs → (bound : List ℕ)
    → each_ready (map part_of fs) bound ≡ true → InOrder bound fs
each_in_order [] all bound ready = subst (Arranges bound [] [] []) (sym (append-nil bound)) (ends bound [] tt)
each_in_order (f ∷ fs) all bound ready =
    let piece = piece_of f in
    let now = (part_of f).is_ready bound in
    let later = each_ready (map part_of fs) (bound ++ (part_of f).free) in
    let last = bound ++ (piece.free ++ free_in_pieces (map piece_of fs)) in
    let others = each_in_order fs all.1 (bound ++ piece.free)
    (ap (λ (us : List ℕ). each_ready (map part_of fs) (bound ++ us)) all.0.free ∙ and_second now later ready) in
    takes bound [] piece (map piece_of fs) f fs [] last tt (all.0.stays bound (and_first now later ready))
    (subst (Arranges (bound ++ piece.free) (map piece_of fs) fs [])
    (append_assoc bound piece.free (free_in_pieces (map piece_of fs))) others)

-- so much is bound behind them
abbrev WhollyTaken : List ℕ → List Formula → Arrangement
WhollyTaken bound fs = record { taken = fs; left = []; bound = bound ++ free_in_pieces (map piece_of fs) }

arrangement_in_order : (bound : List ℕ) (fs : List Formula) → InOrder bound fs
    → arrangement bound (map piece_of fs) ≡ WhollyTaken bound fs
arrangement_in_order bound fs order =
    taking_law.alone bound (map piece_of fs) fs [] (bound ++ free_in_pieces (map piece_of fs)) order

and_stays : (fs : List Formula) → EachPiece IsStaying fs → (bound : List ℕ) → is_ready bound (And fs) ≡ true
    → option_map (λ gs. And gs)
    (where_none_left (arrangement bound (map piece_of fs)).left (arrangement bound (map piece_of fs)).taken)
    ≡ Some (And fs)
and_stays fs all bound ready =
    ap (λ (a : Arrangement). option_map (λ gs. And gs) (where_none_left a.left a.taken))
    (arrangement_in_order bound fs (each_in_order fs all bound
    (sym (ap (λ (p : Part). p.is_ready bound) (part_and fs)) ∙ ready)))

branch_stays : (bound all : List ℕ) (f : Formula) → IsStaying f (piece_of f)
    → branch_ready bound all (part_of f) ≡ true → branch_at bound all (piece_of f) ≡ Some f
branch_stays bound all f stay ready =
    let part = part_of f in
    let has = has_all (bound ++ part.free) all in
    ap (λ (us : List ℕ). cond (has_all (bound ++ us) all) ((piece_of f).at bound) None) stay.free
    ∙ ap₂ (λ test at. cond test at None) (and_second (part.is_ready bound) has ready)
    (stay.stays bound (and_first (part.is_ready bound) has ready))

branches_stay : (bound all : List ℕ) (fs : List Formula) → EachPiece IsStaying fs
    → list_all (branch_ready bound all) (map part_of fs) ≡ true → branches_at bound all (map piece_of fs) ≡ Some fs
branches_stay bound all [] stay ready = refl
branches_stay bound all (f ∷ fs) stay ready =
    let now = branch_ready bound all (part_of f) in
    let later = list_all (branch_ready bound all) (map part_of fs) in
    ap₂ both_at (branch_stays bound all f stay.0 (and_first now later ready))
    (branches_stay bound all fs stay.1 (and_second now later ready))

or_stays : (fs : List Formula) → EachPiece IsStaying fs → (bound : List ℕ) → is_ready bound (Or fs) ≡ true
    → option_map (λ gs. Or gs) (branches_at bound (free_in_pieces (map piece_of fs)) (map piece_of fs)) ≡ Some (Or fs)
or_stays fs all bound ready =
    let pieces = map piece_of fs in
    let parts = map part_of fs in
    ap (λ (vs : List ℕ). option_map (λ gs. Or gs) (branches_at bound vs pieces)) (pieces_alike fs all)
    ∙ ap (option_map (λ gs. Or gs)) (branches_stay bound (free_in parts) fs all
    (sym (ap (λ (p : Part). p.is_ready bound) (part_or fs)) ∙ ready))

not_stays : (f : Formula) → IsStaying f (piece_of f) → (bound : List ℕ) → is_ready bound (Not f) ≡ true
    → cond (has_all bound (piece_of f).free) (option_map (λ g. Not g) ((piece_of f).at bound)) None ≡ Some (Not f)
not_stays f stay bound ready =
    let part = part_of f in
    let both = sym (ap (λ (p : Part). p.is_ready bound) (part_not f)) ∙ ready in
    let has = has_all bound part.free in
    ap₂ (λ test at. cond test (option_map (λ g. Not g) at) None)
    (ap (has_all bound) stay.free ∙ and_first has (part.is_ready bound) both)
    (stay.stays bound (and_second has (part.is_ready bound) both))

staying_closed : IsClosed IsStaying
staying_closed = record {
  conjunction = λ fs all. record {
    free = pieces_alike fs all ∙ sym (ap (λ (p : Part). p.free) (part_and fs));
    stays = and_stays fs all;
  };
  disjunction = λ fs all. record {
    free = pieces_alike fs all ∙ sym (ap (λ (p : Part). p.free) (part_or fs));
    stays = or_stays fs all;
  };
  negation = λ f stay. record {
    free = stay.free ∙ sym (ap (λ (p : Part). p.free) (part_not f));
    stays = not_stays f stay;
  };
  existence = λ vs f stay. record {
    free = ap (without vs) stay.free ∙ sym (ap (λ (p : Part). p.free) (part_exists vs f));
    stays = λ bound ready. ap (option_map (λ g. Exists vs g))
        (stay.stays bound (sym (ap (λ (p : Part). p.is_ready bound) (part_exists vs f)) ∙ ready));
  };
  plain = λ f vs is_ready_at plain. record {
    free = sym (ap (λ (p : Part). p.free) plain.part);
    stays = λ bound ready. ap (λ test. cond test (Some f) None)
        (sym (ap (λ (p : Part). p.is_ready bound) plain.part) ∙ ready);
  };
}

pub ready_arranged : IsReadyArranged
ready_arranged bound f = (piece_induction IsStaying staying_closed f).stays bound

-- formulas that are ready in their order are taken so
pub ready_in_order : (bound : List ℕ) (fs : List Formula) → each_ready (map part_of fs) bound ≡ true
    → arrangement bound (map piece_of fs) ≡ WhollyTaken bound fs
ready_in_order bound fs ready =
    arrangement_in_order bound fs (each_in_order fs (each_piece IsStaying staying_closed fs) bound ready)

-- ---- readiness at each form that has formulas inside it

pub free_alike : (f : Formula) → (piece_of f).free ≡ (part_of f).free
free_alike f = (piece_induction IsStaying staying_closed f).free

pub each_free_alike : (fs : List Formula) → free_in_pieces (map piece_of fs) ≡ free_in (map part_of fs)
each_free_alike fs = pieces_alike fs (each_piece IsStaying staying_closed fs)

pub ready_and : (bound : List ℕ) (fs : List Formula) → is_ready bound (And fs) ≡ each_ready (map part_of fs) bound
ready_and bound fs = ap (λ (p : Part). p.is_ready bound) (part_and fs)

pub ready_or : (bound : List ℕ) (fs : List Formula)
    → is_ready bound (Or fs)
    ≡ list_all (branch_ready bound (free_in_pieces (map piece_of fs))) (map part_of fs)
ready_or bound fs =
    ap (λ (p : Part). p.is_ready bound) (part_or fs)
    ∙ ap (λ (all : List ℕ). list_all (branch_ready bound all) (map part_of fs)) (sym (each_free_alike fs))

pub ready_not : (bound : List ℕ) (f : Formula)
    → is_ready bound (Not f) ≡ (has_all bound (piece_of f).free && is_ready bound f)
ready_not bound f =
    ap (λ (p : Part). p.is_ready bound) (part_not f)
    ∙ ap (λ (us : List ℕ). has_all bound us && is_ready bound f) (sym (free_alike f))

pub ruleset ready_at_forms = (ready_and, ready_or, ready_not)

-- ---- what has the shape is its own conjuncts

shape_at : (x : Formula-F Formula) (f : Formula) → roll-Formula x ≡ f
    → shape_of f ≡ shape_step (map-Formula Formula Shape shape_of x)
shape_at x f is = ap shape_of (sym is) ∙ fold-roll-Formula Shape shape_step x

pub shape_and : (fs : List Formula) → shape_of (And fs) ≡ shape_step (AndLayer (map shape_of fs))
shape_and fs = shape_at (AndLayer fs) (And fs) (rolls-And fs)

pub shape_or : (fs : List Formula) → shape_of (Or fs) ≡ shape_step (OrLayer (map shape_of fs))
shape_or fs = shape_at (OrLayer fs) (Or fs) (rolls-Or fs)

pub shape_not : (f : Formula) → shape_of (Not f) ≡ shape_step (NotLayer (shape_of f))
shape_not f = shape_at (NotLayer f) (Not f) (rolls-Not f)

pub shape_exists : (vs : List ℕ) (f : Formula) → shape_of (Exists vs f) ≡ shape_step (ExistsLayer vs (shape_of f))
shape_exists vs f = shape_at (ExistsLayer vs f) (Exists vs f) (rolls-Exists vs f)

pub shape_frame : (o : Term) (pairs : List (Term × Term)) → shape_of (Frame o pairs) ≡ shape_step (FrameLayer o pairs)
shape_frame o pairs = shape_at (FrameLayer o pairs) (Frame o pairs) (rolls-Frame o pairs)

pub ruleset shape_at_forms = (shape_and, shape_or)

pub one_counted : (pairs : List (Term × Term)) → has_one pairs ≡ (length pairs == 1)
one_counted [] = refl
one_counted (pair ∷ []) = refl
one_counted (pair ∷ second ∷ pairs) = grind (arith, nat_tests)

record IsOwn (f : Formula) (conjuncts : List Formula) : Type 0 where
  alone : (shape_of f).alone ≡ true → conjuncts ≡ f ∷ []
  together : (shape_of f).together ≡ true → And conjuncts ≡ f

abbrev EachOwn : List Formula → Type 0
EachOwn fs = EachFormula (λ f. IsOwn f (conjuncts_of f)) fs

-- a test of a shape that never passes
no_shape : {A : Type 0} (test : Shape → Bool) (shape other : Shape) → shape ≡ other → test other ≡ false
    → test shape ≡ true → A
no_shape test shape other is never passes = absurd (cc (sym passes ∙ ap test is ∙ never))

members_own : (fs : List Formula) → EachOwn fs → list_all Shape.alone (map shape_of fs) ≡ true
    → flat_map conjuncts_of fs ≡ fs
members_own [] all shaped = refl
members_own (f ∷ fs) all shaped =
    let now = (shape_of f).alone in
    let later = list_all Shape.alone (map shape_of fs) in
    ap₂ (λ gs hs. gs ++ hs) (all.0.alone (and_first now later shaped))
    (members_own fs all.1 (and_second now later shaped))

branches_own : (fs : List Formula) → EachOwn fs → list_all Shape.together (map shape_of fs) ≡ true
    → map as_conjunction fs ≡ fs
branches_own [] all shaped = refl
branches_own (f ∷ fs) all shaped =
    let now = (shape_of f).together in
    let later = list_all Shape.together (map shape_of fs) in
    ap₂ (λ g hs. g ∷ hs) (all.0.together (and_first now later shaped))
    (branches_own fs all.1 (and_second now later shaped))

one_slot : (o : Term) (pairs : List (Term × Term)) → has_one pairs ≡ true → slots_of o pairs ≡ Frame o pairs ∷ []
one_slot o [] one = absurd (cc one)
one_slot o (pair ∷ []) one = refl
one_slot o (pair ∷ second ∷ pairs) one = absurd (cc one)

own_kept : IsKept IsOwn
own_kept = record {
  conjunction = λ fs all. record {
    alone = no_shape Shape.alone (shape_of (And fs)) (shape_step (AndLayer (map shape_of fs))) (shape_and fs) refl;
    together = λ shaped. ap (λ gs. And gs) (members_own fs all
        (sym (ap (λ (shape : Shape). shape.together) (shape_and fs)) ∙ shaped));
  };
  disjunction = λ fs all. record {
    alone = λ shaped. ap (λ gs. Or gs ∷ []) (branches_own fs all
        (sym (ap (λ (shape : Shape). shape.alone) (shape_or fs)) ∙ shaped));
    together = no_shape Shape.together (shape_of (Or fs)) (shape_step (OrLayer (map shape_of fs))) (shape_or fs) refl;
  };
  negation = λ f own. record {
    alone = λ shaped. ap (λ g. Not g ∷ [])
        (own.together (sym (ap (λ (shape : Shape). shape.alone) (shape_not f)) ∙ shaped));
    together = no_shape Shape.together (shape_of (Not f)) (shape_step (NotLayer (shape_of f))) (shape_not f) refl;
  };
  existence = λ vs f own. record {
    alone = λ shaped. ap (λ g. Exists vs g ∷ [])
        (own.together (sym (ap (λ (shape : Shape). shape.alone) (shape_exists vs f)) ∙ shaped));
    together = no_shape Shape.together (shape_of (Exists vs f)) (shape_step (ExistsLayer vs (shape_of f)))
        (shape_exists vs f) refl;
  };
  frame = λ o pairs. record {
    alone = λ shaped. one_slot o pairs (sym (ap (λ (shape : Shape). shape.alone) (shape_frame o pairs)) ∙ shaped);
    together = no_shape Shape.together (shape_of (Frame o pairs)) (shape_step (FrameLayer o pairs))
        (shape_frame o pairs) refl;
  };
  alone = λ f single. record {
    alone = λ shaped. refl;
    together = no_shape Shape.together (shape_of f) (record { alone = true; together = false }) single refl;
  };
}

each_own : (fs : List Formula) → EachOwn fs
each_own [] = tt
each_own (f ∷ fs) = (conjunct_induction IsOwn own_kept f, each_own fs)

-- conjuncts that stand alone are their own
pub alone_own : (fs : List Formula) → list_all Shape.alone (map shape_of fs) ≡ true
    → flat_map conjuncts_of fs ≡ fs
alone_own fs = members_own fs (each_own fs)

pub arranged_stays : IsArrangedStaying
arranged_stays f shaped ready =
    let fs = conjuncts_of f in
    let own = (conjunct_induction IsOwn own_kept f).together shaped in
    let whole : is_ready [] (And fs) ≡ true = ap (is_ready []) own ∙ ready in
    let is = ready_in_order [] fs (sym (ready_and [] fs) ∙ whole) in
    record {
      taken = ap (λ (a : Arrangement). And a.taken) is ∙ own;
      left = ap (λ (a : Arrangement). a.left) is;
    }
