-- Induction over conjuncts: what holds of each form of conjunct holds of all. And what holds of those without
-- formulas inside them.
use Rattle.std.proofs.Common.{◌≡◌, ℕ, Bool, true, ◌&&◌, List, [], ◌∷◌, ◌++◌, Some, None, map, ap, ap₂}
use Rattle.std.proofs.Common.{◌∙◌}
use Rattle.std.proofs.Common.{sym, refl, subst}
use Rattle.std.specs.List.{flat_map}
use Rattle.std.specs.declared.option.Option.{Option}
use Rattle.rif_tree.specs.declared.tree.Term.{Term}
use Rattle.rif_tree.specs.declared.tree.Formula.{Formula, map-Formula, roll-Formula}
use Rattle.rif_tree.specs.declared.tree.Formula.TheOpen.{Formula-F, And as AndLayer, Or as OrLayer, Not as NotLayer}
use Rattle.rif_tree.specs.declared.tree.Formula.TheOpen.{Exists as ExistsLayer, Equal as EqualLayer}
use Rattle.rif_tree.specs.declared.tree.Formula.TheOpen.{Member as MemberLayer, Frame as FrameLayer}
use Rattle.rif_tree.specs.declared.tree.Formula.TheOpen.{Atom as AtomLayer, Holds as HoldsLayer}
use Rattle.rif_tree.specs.declared.tree.Formula.TheVariants.{And, Or, Not, Exists, Equal, Member, Frame, Atom, Holds}
use Rattle.rif_tree.specs.declared.tree.Formula.TheVariants.{rolls-And, rolls-Or, rolls-Not, rolls-Exists}
use Rattle.rif_tree.specs.declared.tree.Formula.TheVariants.{rolls-Equal, rolls-Member, rolls-Frame, rolls-Atom}
use Rattle.rif_tree.specs.declared.tree.Formula.TheVariants.{rolls-Holds}
use Rattle.rif_tree.specs.declared.tree.Formula.TheFolds.{fold-Formula, fold-roll-Formula, ind-Formula}
use Rattle.rif_tree.specs.Laws.{AreAmong}
use Rattle.rif_tree.specs.Ready.{Part, part_of, part_step, pattern_ready, slots_ready, equal_ready}
use Rattle.rif_tree.specs.Scoped.{is_scoped, scoped_step}
use Rattle.rif_tree.specs.Variables.{has_all, variable_of, variables_of, called_variables_of, variables_of_pair}
use Rattle.rif_tree.specs.Variables.{slots_free}
use Rattle.rif_tree.proofs.CallerLemmas.{or_first, has_all_elim, has_all_intro, has_all_more, among_front, among_back}
use Rattle.ready_order.specs.Arranging.{Piece, piece_of, piece_step, whole_piece}

-- ---- conjuncts without formulas inside them

-- what such a formula has free and when it is ready
pub record IsPlain (f : Formula) (vs : List ℕ) (is_ready : List ℕ → Bool) : Type 0 where
  pub part : part_of f ≡ record { free = vs; is_ready = is_ready }
  pub scoped : (held : List ℕ) → is_scoped held f ≡ has_all held vs
  pub willing : (bound : List ℕ) → has_all bound vs ≡ true → is_ready bound ≡ true

pub all_within : (bound us ws : List ℕ) → AreAmong us ws → has_all bound ws ≡ true → has_all bound us ≡ true
all_within bound us ws among all = has_all_intro bound us (λ v has. has_all_elim bound ws all v (among v has))

called_bound : (bound : List ℕ) (t : Term) → has_all bound (variables_of t) ≡ true
    → has_all bound (called_variables_of t) ≡ true
called_bound bound t all = at (variable_of t)
  where
    at : (o : Option ℕ) → has_all bound (elim o [ Some v ↦ [] | None ↦ variables_of t ]) ≡ true
    at None = all
    at (Some v) = refl

pattern_bound : (bound : List ℕ) (ts : List Term) → has_all bound (flat_map variables_of ts) ≡ true
    → pattern_ready bound ts ≡ true
pattern_bound bound [] all = refl
pattern_bound bound (t ∷ ts) all =
    let us = variables_of t in
    let ws = flat_map variables_of ts in
    ap₂ (λ a b. a && b) (called_bound bound t (all_within bound us (us ++ ws) (among_front us ws) all))
    (pattern_bound bound ts (all_within bound ws (us ++ ws) (among_back us ws) all))

pair_bound : (bound : List ℕ) (o c : Term) → has_all bound (variables_of o ++ variables_of c) ≡ true
    → pattern_ready bound (o ∷ c ∷ []) ≡ true
pair_bound bound o c all =
    let us = variables_of o in
    let ws = variables_of c in
    ap₂ (λ a b. a && (b && true)) (called_bound bound o (all_within bound us (us ++ ws) (among_front us ws) all))
    (called_bound bound c (all_within bound ws (us ++ ws) (among_back us ws) all))

slots_bound : (o : Term) (pairs : List (Term × Term)) (bound : List ℕ) → has_all bound (slots_free o pairs) ≡ true
    → slots_ready o pairs bound ≡ true
slots_bound o [] bound all = refl
slots_bound o (pair ∷ pairs) bound all =
    let inner = variables_of_pair pair in
    let us = variables_of o ++ inner in
    let ws = slots_free o pairs in
    let here = all_within bound us (us ++ ws) (among_front us ws) all in
    ap₂ (λ a b. a && b)
    (ap₂ (λ a b. a && b)
    (called_bound bound o (all_within bound (variables_of o) us (among_front (variables_of o) inner) here))
    (pair_bound bound pair.0 pair.1 (all_within bound inner us (among_back (variables_of o) inner) here)))
    (slots_bound o pairs (bound ++ us)
    (has_all_more bound (bound ++ us) ws (among_front bound us)
    (all_within bound ws (us ++ ws) (among_back us ws) all)))

equal_bound : (bound : List ℕ) (a b : Term) → has_all bound (variables_of a ++ variables_of b) ≡ true
    → equal_ready bound a b ≡ true
equal_bound bound a b all =
    let us = variables_of a in
    let ws = variables_of b in
    or_first (has_all bound us && has_all bound ws) _
    (ap₂ (λ p q. p && q) (all_within bound us (us ++ ws) (among_front us ws) all)
    (all_within bound ws (us ++ ws) (among_back us ws) all))

part_at : (x : Formula-F Formula) (f : Formula) → roll-Formula x ≡ f
    → part_of f ≡ part_step (map-Formula Formula Part part_of x)
part_at x f is = ap part_of (sym is) ∙ fold-roll-Formula Part part_step x

abbrev scope_of : Formula → List ℕ → Bool
scope_of = fold-Formula (List ℕ → Bool) scoped_step

scope_at : (x : Formula-F Formula) (f : Formula) → roll-Formula x ≡ f → (held : List ℕ)
    → is_scoped held f ≡ scoped_step (map-Formula Formula (List ℕ → Bool) scope_of x) held
scope_at x f is held =
    ap (is_scoped held) (sym is)
    ∙ ap (λ (scope : List ℕ → Bool). scope held) (fold-roll-Formula (List ℕ → Bool) scoped_step x)

equal_plain : (a b : Term) → IsPlain (Equal a b) (variables_of a ++ variables_of b) (λ bound. equal_ready bound a b)
equal_plain a b = record {
  part = part_at (EqualLayer a b) (Equal a b) (rolls-Equal a b);
  scoped = scope_at (EqualLayer a b) (Equal a b) (rolls-Equal a b);
  willing = λ bound all. equal_bound bound a b all;
}

member_plain : (o c : Term)
    → IsPlain (Member o c) (variables_of o ++ variables_of c) (λ bound. pattern_ready bound (o ∷ c ∷ []))
member_plain o c = record {
  part = part_at (MemberLayer o c) (Member o c) (rolls-Member o c);
  scoped = scope_at (MemberLayer o c) (Member o c) (rolls-Member o c);
  willing = λ bound all. pair_bound bound o c all;
}

pub frame_plain : (o : Term) (pairs : List (Term × Term))
    → IsPlain (Frame o pairs) (slots_free o pairs) (slots_ready o pairs)
frame_plain o pairs = record {
  part = part_at (FrameLayer o pairs) (Frame o pairs) (rolls-Frame o pairs);
  scoped = scope_at (FrameLayer o pairs) (Frame o pairs) (rolls-Frame o pairs);
  willing = λ bound all. slots_bound o pairs bound all;
}

-- ---- all conjuncts

abbrev pub EachPiece : (Formula → Piece → Type 0) → List Formula → Type 0
EachPiece P [] = Unit {0}
EachPiece P (f ∷ fs) = P f (piece_of f) × EachPiece P fs

-- what holds of a conjunct where it holds of the formulas inside it
pub record IsClosed (P : Formula → Piece → Type 0) : Type 0 where
  pub conjunction : (fs : List Formula) → EachPiece P fs → P (And fs) (piece_step (AndLayer (map piece_of fs)))
  pub disjunction : (fs : List Formula) → EachPiece P fs → P (Or fs) (piece_step (OrLayer (map piece_of fs)))
  pub negation : (f : Formula) → P f (piece_of f) → P (Not f) (piece_step (NotLayer (piece_of f)))
  pub existence : (vs : List ℕ) (f : Formula) → P f (piece_of f)
      → P (Exists vs f) (piece_step (ExistsLayer vs (piece_of f)))
  pub plain : (f : Formula) (vs : List ℕ) (is_ready : List ℕ → Bool) → IsPlain f vs is_ready
      → P f (whole_piece vs is_ready f)

abbrev HoldsOf : (Formula → Piece → Type 0) → Formula → Type 0
HoldsOf P f = P f (piece_of f)

abbrev Known : (Formula → Piece → Type 0) → Type 0
Known P = (f : Formula) × HoldsOf P f

abbrev formula_in : (P : Formula → Piece → Type 0) → Known P → Formula
formula_in P e = e.0

abbrev formulas_in : (P : Formula → Piece → Type 0) → Formula-F (Known P) → Formula-F Formula
formulas_in P y = map-Formula (Known P) Formula (formula_in P) y

each_known : (P : Formula → Piece → Type 0) (es : List (Known P)) → EachPiece P (map (formula_in P) es)
each_known P [] = tt
each_known P (e ∷ es) = (e.1, each_known P es)

inside : (P : Formula → Piece → Type 0) → IsClosed P → (y : Formula-F (Known P))
    → P (roll-Formula (formulas_in P y)) (piece_step (map-Formula Formula Piece piece_of (formulas_in P y)))
inside P closed (AndLayer es) =
    let fs = map (formula_in P) es in
    subst (λ f. P f (piece_step (AndLayer (map piece_of fs)))) (sym (rolls-And fs))
    (closed.conjunction fs (each_known P es))
inside P closed (OrLayer es) =
    let fs = map (formula_in P) es in
    subst (λ f. P f (piece_step (OrLayer (map piece_of fs)))) (sym (rolls-Or fs))
    (closed.disjunction fs (each_known P es))
inside P closed (NotLayer e) =
    subst (λ f. P f (piece_step (NotLayer (piece_of e.0)))) (sym (rolls-Not e.0)) (closed.negation e.0 e.1)
inside P closed (ExistsLayer vs e) =
    subst (λ f. P f (piece_step (ExistsLayer vs (piece_of e.0)))) (sym (rolls-Exists vs e.0))
    (closed.existence vs e.0 e.1)
inside P closed (EqualLayer a b) =
    subst (λ f. P f (piece_step (EqualLayer a b))) (sym (rolls-Equal a b))
    (closed.plain (Equal a b) (variables_of a ++ variables_of b) (λ bound. equal_ready bound a b) (equal_plain a b))
inside P closed (MemberLayer o c) =
    subst (λ f. P f (piece_step (MemberLayer o c))) (sym (rolls-Member o c))
    (closed.plain (Member o c) (variables_of o ++ variables_of c) (λ bound. pattern_ready bound (o ∷ c ∷ []))
    (member_plain o c))
inside P closed (FrameLayer o pairs) =
    subst (λ f. P f (piece_step (FrameLayer o pairs))) (sym (rolls-Frame o pairs))
    (closed.plain (Frame o pairs) (slots_free o pairs) (slots_ready o pairs) (frame_plain o pairs))
inside P closed (AtomLayer p ts) =
    subst (λ f. P f (piece_step (AtomLayer p ts))) (sym (rolls-Atom p ts))
    (closed.plain (Atom p ts) (flat_map variables_of ts) (λ bound. pattern_ready bound ts) (record {
      part = part_at (AtomLayer p ts) (Atom p ts) (rolls-Atom p ts);
      scoped = scope_at (AtomLayer p ts) (Atom p ts) (rolls-Atom p ts);
      willing = λ bound all. pattern_bound bound ts all;
    }))
inside P closed (HoldsLayer pred ts) =
    subst (λ f. P f (piece_step (HoldsLayer pred ts))) (sym (rolls-Holds pred ts))
    (closed.plain (Holds pred ts) (flat_map variables_of ts) (λ bound. has_all bound (flat_map variables_of ts))
    (record {
      part = part_at (HoldsLayer pred ts) (Holds pred ts) (rolls-Holds pred ts);
      scoped = scope_at (HoldsLayer pred ts) (Holds pred ts) (rolls-Holds pred ts);
      willing = λ bound all. all;
    }))

layer : (P : Formula → Piece → Type 0) → IsClosed P → (y : Formula-F (Known P))
    → HoldsOf P (roll-Formula (formulas_in P y))
layer P closed y =
    let x = formulas_in P y in
    subst (P (roll-Formula x)) (sym (fold-roll-Formula Piece piece_step x)) (inside P closed y)

pub piece_induction : (P : Formula → Piece → Type 0) → IsClosed P → (f : Formula) → P f (piece_of f)
piece_induction P closed =
    ind-Formula (HoldsOf P) (λ x y is. subst (λ z. HoldsOf P (roll-Formula z)) is (layer P closed y))

pub each_piece : (P : Formula → Piece → Type 0) → IsClosed P → (fs : List Formula) → EachPiece P fs
each_piece P closed [] = tt
each_piece P closed (f ∷ fs) = (piece_induction P closed f, each_piece P closed fs)
