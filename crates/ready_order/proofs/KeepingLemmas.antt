-- The conjuncts of a formula have the variables and the scope that the formula has.
use Rattle.std.proofs.Common.{◌≡◌, ℕ, Bool, true, false, ◌&&◌, List, [], ◌∷◌, ◌++◌, map, ap, ap₂, ◌∙◌, sym, refl}
use Rattle.std.proofs.Common.{subst}
use Rattle.std.proofs.Common.{append-nil}
use Rattle.std.specs.List.{list_all, flat_map}
use Rattle.std.proofs.lemmas.Grind.{flat_map-append}
use Rattle.std.proofs.lemmas.List.Folds.{list_all-append, list_all-map, flat_map-map}
use Rattle.rif_tree.specs.declared.tree.Term.{Term}
use Rattle.rif_tree.specs.declared.tree.Formula.{Formula, map-Formula, roll-Formula}
use Rattle.rif_tree.specs.declared.tree.Formula.TheOpen.{Formula-F, And as AndLayer, Or as OrLayer, Not as NotLayer}
use Rattle.rif_tree.specs.declared.tree.Formula.TheOpen.{Exists as ExistsLayer, Equal as EqualLayer}
use Rattle.rif_tree.specs.declared.tree.Formula.TheOpen.{Member as MemberLayer, Frame as FrameLayer}
use Rattle.rif_tree.specs.declared.tree.Formula.TheOpen.{Atom as AtomLayer, Holds as HoldsLayer}
use Rattle.rif_tree.specs.declared.tree.Formula.TheVariants.{And, Or, Not, Exists, Equal, Member, Frame, Atom, Holds}
use Rattle.rif_tree.specs.declared.tree.Formula.TheVariants.{rolls-And, rolls-Or, rolls-Not, rolls-Exists}
use Rattle.rif_tree.specs.declared.tree.Formula.TheVariants.{rolls-Equal, rolls-Member, rolls-Frame, rolls-Atom}
use Rattle.rif_tree.specs.declared.tree.Formula.TheVariants.{rolls-Holds}
use Rattle.rif_tree.specs.declared.tree.Formula.TheFolds.{fold-Formula, fold-roll-Formula, ind-Formula}
use Rattle.rif_tree.specs.Scoped.{is_scoped, scoped_step, has_none}
use Rattle.rif_tree.specs.Variables.{has_all, without, variables_of, variables_of_pair, slots_free, free_of}
use Rattle.rif_tree.specs.Variables.{free_step}
use Rattle.rif_tree.proofs.CallerLemmas.{free_and, free_or}
use Rattle.ready_order.specs.Arranging.{Piece, piece_of, piece_step, occurring_in_pieces}
use Rattle.ready_order.specs.Conjuncts.{conjuncts_of, conjuncts_step, slots_of}
use Rattle.ready_order.specs.Laws.{AreConjunctsScoped}
use Rattle.ready_order.specs.Shapes.{Shape, shape_of, shape_step, conjunct_where}

-- ---- induction over a formula and its conjuncts

abbrev pub EachFormula : (Formula → Type 0) → List Formula → Type 0
EachFormula P [] = Unit {0}
EachFormula P (f ∷ fs) = P f × EachFormula P fs

abbrev pub as_conjunction : Formula → Formula
as_conjunction f = And (conjuncts_of f)

-- what holds of a formula and its conjuncts where it holds of those inside it
pub record IsKept (P : Formula → List Formula → Type 0) : Type 0 where
  pub conjunction : (fs : List Formula) → EachFormula (λ f. P f (conjuncts_of f)) fs
      → P (And fs) (flat_map conjuncts_of fs)
  pub disjunction : (fs : List Formula) → EachFormula (λ f. P f (conjuncts_of f)) fs
      → P (Or fs) (Or (map as_conjunction fs) ∷ [])
  pub negation : (f : Formula) → P f (conjuncts_of f) → P (Not f) (Not (as_conjunction f) ∷ [])
  pub existence : (vs : List ℕ) (f : Formula) → P f (conjuncts_of f)
      → P (Exists vs f) (Exists vs (as_conjunction f) ∷ [])
  pub frame : (o : Term) (pairs : List (Term × Term)) → P (Frame o pairs) (slots_of o pairs)
  pub alone : (f : Formula) → shape_of f ≡ conjunct_where true → P f (f ∷ [])

abbrev HoldsOf : (Formula → List Formula → Type 0) → Formula → Type 0
HoldsOf P f = P f (conjuncts_of f)

abbrev Known : (Formula → List Formula → Type 0) → Type 0
Known P = (f : Formula) × HoldsOf P f

abbrev formula_in : (P : Formula → List Formula → Type 0) → Known P → Formula
formula_in P e = e.0

abbrev formulas_in : (P : Formula → List Formula → Type 0) → Formula-F (Known P) → Formula-F Formula
formulas_in P y = map-Formula (Known P) Formula (formula_in P) y

each_known : (P : Formula → List Formula → Type 0) (es : List (Known P))
    → EachFormula (λ f. P f (conjuncts_of f)) (map (formula_in P) es)
each_known P [] = tt
each_known P (e ∷ es) = (e.1, each_known P es)

and_conjuncts : (fs : List Formula) → conjuncts_step (AndLayer (map conjuncts_of fs)) ≡ flat_map conjuncts_of fs
and_conjuncts fs = flat_map-map (λ conjuncts. conjuncts) conjuncts_of fs

or_conjuncts : (fs : List Formula) → map (λ conjuncts. And conjuncts) (map conjuncts_of fs) ≡ map as_conjunction fs
or_conjuncts [] = refl
or_conjuncts (f ∷ fs) = ap (λ gs. as_conjunction f ∷ gs) (or_conjuncts fs)

alone_at : (P : Formula → List Formula → Type 0) → IsKept P → (x : Formula-F Formula) (f : Formula)
    → roll-Formula x ≡ f → shape_step (map-Formula Formula Shape shape_of x) ≡ conjunct_where true
    → P (roll-Formula x) (f ∷ [])
alone_at P kept x f is shape =
    subst (λ h. P h (f ∷ [])) (sym is)
    (kept.alone f (ap shape_of (sym is) ∙ fold-roll-Formula Shape shape_step x ∙ shape))

inside : (P : Formula → List Formula → Type 0) → IsKept P → (y : Formula-F (Known P))
    → P (roll-Formula (formulas_in P y)) (conjuncts_step (map-Formula Formula (List Formula) conjuncts_of
    (formulas_in P y)))
inside P kept (AndLayer es) =
    let fs = map (formula_in P) es in
    subst (P (roll-Formula (AndLayer fs))) (sym (and_conjuncts fs))
    (subst (λ f. P f (flat_map conjuncts_of fs)) (sym (rolls-And fs)) (kept.conjunction fs (each_known P es)))
inside P kept (OrLayer es) =
    let fs = map (formula_in P) es in
    subst (λ gs. P (roll-Formula (OrLayer fs)) (Or gs ∷ [])) (sym (or_conjuncts fs))
    (subst (λ f. P f (Or (map as_conjunction fs) ∷ [])) (sym (rolls-Or fs)) (kept.disjunction fs (each_known P es)))
inside P kept (NotLayer e) =
    subst (λ f. P f (Not (as_conjunction e.0) ∷ [])) (sym (rolls-Not e.0)) (kept.negation e.0 e.1)
inside P kept (ExistsLayer vs e) =
    subst (λ f. P f (Exists vs (as_conjunction e.0) ∷ [])) (sym (rolls-Exists vs e.0)) (kept.existence vs e.0 e.1)
inside P kept (EqualLayer a b) = alone_at P kept (EqualLayer a b) (Equal a b) (rolls-Equal a b) refl
inside P kept (MemberLayer o c) = alone_at P kept (MemberLayer o c) (Member o c) (rolls-Member o c) refl
inside P kept (FrameLayer o pairs) =
    subst (λ f. P f (slots_of o pairs)) (sym (rolls-Frame o pairs)) (kept.frame o pairs)
inside P kept (AtomLayer p ts) = alone_at P kept (AtomLayer p ts) (Atom p ts) (rolls-Atom p ts) refl
inside P kept (HoldsLayer pred ts) = alone_at P kept (HoldsLayer pred ts) (Holds pred ts) (rolls-Holds pred ts) refl

layer : (P : Formula → List Formula → Type 0) → IsKept P → (y : Formula-F (Known P))
    → HoldsOf P (roll-Formula (formulas_in P y))
layer P kept y =
    let x = formulas_in P y in
    subst (P (roll-Formula x)) (sym (fold-roll-Formula (List Formula) conjuncts_step x)) (inside P kept y)

pub conjunct_induction : (P : Formula → List Formula → Type 0) → IsKept P → (f : Formula) → P f (conjuncts_of f)
conjunct_induction P kept =
    ind-Formula (HoldsOf P) (λ x y is. subst (λ z. HoldsOf P (roll-Formula z)) is (layer P kept y))

-- ---- variables

-- a word for some variables of formulas, where `Exists` changes those of its formula so
pub record IsWord (word : Formula → List ℕ) (declared : List ℕ → List ℕ → List ℕ) : Type 0 where
  pub and : (fs : List Formula) → word (And fs) ≡ flat_map word fs
  pub or : (fs : List Formula) → word (Or fs) ≡ flat_map word fs
  pub not : (f : Formula) → word (Not f) ≡ word f
  pub exists : (vs : List ℕ) (f : Formula) → word (Exists vs f) ≡ declared vs (word f)
  pub slots : (o : Term) (pairs : List (Term × Term)) → flat_map word (slots_of o pairs) ≡ word (Frame o pairs)

abbrev pub KeepsWord : (Formula → List ℕ) → Formula → List Formula → Type 0
KeepsWord word f conjuncts = flat_map word conjuncts ≡ word f

members_kept : (word : Formula → List ℕ) (fs : List Formula)
    → EachFormula (λ f. KeepsWord word f (conjuncts_of f)) fs
    → flat_map word (flat_map conjuncts_of fs) ≡ flat_map word fs
members_kept word [] all = refl
members_kept word (f ∷ fs) all =
    flat_map-append word (conjuncts_of f) (flat_map conjuncts_of fs)
    ∙ ap₂ (λ us ws. us ++ ws) all.0 (members_kept word fs all.1)

branches_kept : (word : Formula → List ℕ) (declared : List ℕ → List ℕ → List ℕ) → IsWord word declared
    → (fs : List Formula) → EachFormula (λ f. KeepsWord word f (conjuncts_of f)) fs
    → flat_map word (map as_conjunction fs) ≡ flat_map word fs
branches_kept word declared is [] all = refl
branches_kept word declared is (f ∷ fs) all =
    ap₂ (λ us ws. us ++ ws) (is.and (conjuncts_of f) ∙ all.0) (branches_kept word declared is fs all.1)

pub word_kept : (word : Formula → List ℕ) (declared : List ℕ → List ℕ → List ℕ) → IsWord word declared
    → IsKept (KeepsWord word)
word_kept word declared is = record {
  conjunction = λ fs all. members_kept word fs all ∙ sym (is.and fs);
  disjunction = λ fs all.
      append-nil (word (Or (map as_conjunction fs))) ∙ is.or (map as_conjunction fs)
      ∙ branches_kept word declared is fs all ∙ sym (is.or fs);
  negation = λ f all.
      append-nil (word (Not (as_conjunction f))) ∙ is.not (as_conjunction f) ∙ is.and (conjuncts_of f) ∙ all
      ∙ sym (is.not f);
  existence = λ vs f all.
      append-nil (word (Exists vs (as_conjunction f))) ∙ is.exists vs (as_conjunction f)
      ∙ ap (declared vs) (is.and (conjuncts_of f) ∙ all) ∙ sym (is.exists vs f);
  frame = is.slots;
  alone = λ f single. append-nil (word f);
}

-- a word for the variables of a frame, slot by slot
abbrev IsOfSlots : (Formula → List ℕ) → Type 0
IsOfSlots word = (o : Term) (pairs : List (Term × Term)) → word (Frame o pairs) ≡ slots_free o pairs

slots_kept : (word : Formula → List ℕ) → IsOfSlots word → (o : Term) (pairs : List (Term × Term))
    → flat_map word (slots_of o pairs) ≡ slots_free o pairs
slots_kept word is o [] = refl
slots_kept word is o (pair ∷ pairs) =
    ap₂ (λ us ws. us ++ ws) (is o (pair ∷ []) ∙ append-nil (variables_of o ++ variables_of_pair pair))
    (slots_kept word is o pairs)

free_at : (x : Formula-F Formula) (f : Formula) → roll-Formula x ≡ f
    → free_of f ≡ free_step (map-Formula Formula (List ℕ) free_of x)
free_at x f is = ap free_of (sym is) ∙ fold-roll-Formula (List ℕ) free_step x

frame_free : IsOfSlots free_of
frame_free o pairs = free_at (FrameLayer o pairs) (Frame o pairs) (rolls-Frame o pairs)

free_word : IsWord free_of without
free_word = record {
  and = free_and;
  or = free_or;
  not = λ f. free_at (NotLayer f) (Not f) (rolls-Not f);
  exists = λ vs f. free_at (ExistsLayer vs f) (Exists vs f) (rolls-Exists vs f);
  slots = λ o pairs. slots_kept free_of frame_free o pairs ∙ sym (frame_free o pairs);
}

abbrev pub occurring_of : Formula → List ℕ
occurring_of f = (piece_of f).occurring

occurring_at : (x : Formula-F Formula) (f : Formula) → roll-Formula x ≡ f
    → occurring_of f ≡ (piece_step (map-Formula Formula Piece piece_of x)).occurring
occurring_at x f is =
    ap occurring_of (sym is) ∙ ap (λ (p : Piece). p.occurring) (fold-roll-Formula Piece piece_step x)

pub each_occurring : (fs : List Formula) → occurring_in_pieces (map piece_of fs) ≡ flat_map occurring_of fs
each_occurring fs = flat_map-map Piece.occurring piece_of fs

frame_occurring : IsOfSlots occurring_of
frame_occurring o pairs = occurring_at (FrameLayer o pairs) (Frame o pairs) (rolls-Frame o pairs)

occurring_word : IsWord occurring_of (λ vs us. us)
occurring_word = record {
  and = λ fs. occurring_at (AndLayer fs) (And fs) (rolls-And fs) ∙ each_occurring fs;
  or = λ fs. occurring_at (OrLayer fs) (Or fs) (rolls-Or fs) ∙ each_occurring fs;
  not = λ f. occurring_at (NotLayer f) (Not f) (rolls-Not f);
  exists = λ vs f. occurring_at (ExistsLayer vs f) (Exists vs f) (rolls-Exists vs f);
  slots = λ o pairs. slots_kept occurring_of frame_occurring o pairs ∙ sym (frame_occurring o pairs);
}

pub conjuncts_free : (f : Formula) → free_of (And (conjuncts_of f)) ≡ free_of f
conjuncts_free f =
    free_and (conjuncts_of f) ∙ conjunct_induction (KeepsWord free_of) (word_kept free_of without free_word) f

pub conjuncts_occurring : (f : Formula)
    → occurring_in_pieces (map piece_of (conjuncts_of f)) ≡ (piece_of f).occurring
conjuncts_occurring f =
    each_occurring (conjuncts_of f)
    ∙ conjunct_induction (KeepsWord occurring_of) (word_kept occurring_of (λ vs us. us) occurring_word) f

-- ---- scope

abbrev scope_of : Formula → List ℕ → Bool
scope_of = fold-Formula (List ℕ → Bool) scoped_step

scope_at : (x : Formula-F Formula) (f : Formula) → roll-Formula x ≡ f → (held : List ℕ)
    → is_scoped held f ≡ scoped_step (map-Formula Formula (List ℕ → Bool) scope_of x) held
scope_at x f is held =
    ap (is_scoped held) (sym is)
    ∙ ap (λ (scope : List ℕ → Bool). scope held) (fold-roll-Formula (List ℕ → Bool) scoped_step x)

pub scoped_and : (held : List ℕ) (fs : List Formula) → is_scoped held (And fs) ≡ list_all (is_scoped held) fs
scoped_and held fs =
    scope_at (AndLayer fs) (And fs) (rolls-And fs) held
    ∙ list_all-map (λ (scope : List ℕ → Bool). scope held) scope_of fs

pub scoped_or : (held : List ℕ) (fs : List Formula) → is_scoped held (Or fs) ≡ list_all (is_scoped held) fs
scoped_or held fs =
    scope_at (OrLayer fs) (Or fs) (rolls-Or fs) held
    ∙ list_all-map (λ (scope : List ℕ → Bool). scope held) scope_of fs

pub scoped_not : (held : List ℕ) (f : Formula) → is_scoped held (Not f) ≡ is_scoped held f
scoped_not held f = scope_at (NotLayer f) (Not f) (rolls-Not f) held

pub scoped_exists : (held vs : List ℕ) (f : Formula)
    → is_scoped held (Exists vs f) ≡ (has_none held vs && is_scoped (held ++ vs) f)
scoped_exists held vs f = scope_at (ExistsLayer vs f) (Exists vs f) (rolls-Exists vs f) held

abbrev KeepsScope : Formula → List Formula → Type 0
KeepsScope f conjuncts = (held : List ℕ) → list_all (is_scoped held) conjuncts ≡ is_scoped held f

and_true : (a : Bool) → (a && true) ≡ a
and_true true = refl
and_true false = refl

members_scoped : (held : List ℕ) (fs : List Formula) → EachFormula (λ f. KeepsScope f (conjuncts_of f)) fs
    → list_all (is_scoped held) (flat_map conjuncts_of fs) ≡ list_all (is_scoped held) fs
members_scoped held [] all = refl
members_scoped held (f ∷ fs) all =
    list_all-append (is_scoped held) (conjuncts_of f) (flat_map conjuncts_of fs)
    ∙ ap₂ (λ a b. a && b) (all.0 held) (members_scoped held fs all.1)

branches_scoped : (held : List ℕ) (fs : List Formula) → EachFormula (λ f. KeepsScope f (conjuncts_of f)) fs
    → list_all (is_scoped held) (map as_conjunction fs) ≡ list_all (is_scoped held) fs
branches_scoped held [] all = refl
branches_scoped held (f ∷ fs) all =
    ap₂ (λ a b. a && b) (scoped_and held (conjuncts_of f) ∙ all.0 held) (branches_scoped held fs all.1)

frame_scoped : (held : List ℕ) (o : Term) (pairs : List (Term × Term))
    → is_scoped held (Frame o pairs) ≡ has_all held (slots_free o pairs)
frame_scoped held o pairs = scope_at (FrameLayer o pairs) (Frame o pairs) (rolls-Frame o pairs) held

slots_scoped : (held : List ℕ) (o : Term) (pairs : List (Term × Term))
    → list_all (is_scoped held) (slots_of o pairs) ≡ has_all held (slots_free o pairs)
slots_scoped held o [] = refl
slots_scoped held o (pair ∷ pairs) =
    let us = variables_of o ++ variables_of_pair pair in
    ap₂ (λ a b. a && b) (frame_scoped held o (pair ∷ []) ∙ ap (has_all held) (append-nil us))
    (slots_scoped held o pairs)
    ∙ sym (list_all-append _ us (slots_free o pairs))

scope_kept : IsKept KeepsScope
scope_kept = record {
  conjunction = λ fs all held. members_scoped held fs all ∙ sym (scoped_and held fs);
  disjunction = λ fs all held.
      and_true (is_scoped held (Or (map as_conjunction fs))) ∙ scoped_or held (map as_conjunction fs)
      ∙ branches_scoped held fs all ∙ sym (scoped_or held fs);
  negation = λ f all held.
      and_true (is_scoped held (Not (as_conjunction f))) ∙ scoped_not held (as_conjunction f)
      ∙ scoped_and held (conjuncts_of f) ∙ all held ∙ sym (scoped_not held f);
  existence = λ vs f all held.
      and_true (is_scoped held (Exists vs (as_conjunction f))) ∙ scoped_exists held vs (as_conjunction f)
      ∙ ap (λ b. has_none held vs && b) (scoped_and (held ++ vs) (conjuncts_of f) ∙ all (held ++ vs))
      ∙ sym (scoped_exists held vs f);
  frame = λ o pairs held. slots_scoped held o pairs ∙ sym (frame_scoped held o pairs);
  alone = λ f single held. and_true (is_scoped held f);
}

pub conjuncts_scoped : AreConjunctsScoped
conjuncts_scoped f held =
    scoped_and held (conjuncts_of f) ∙ conjunct_induction KeepsScope scope_kept f held
