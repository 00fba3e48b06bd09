-- What is taken of a condition's conjuncts has the shape of arranged conditions, and declares what it declares.
use Rattle.std.proofs.Common.{◌≡◌, true, ◌&&◌, List, [], ◌∷◌, ◌++◌, map, ap, ap₂, ◌∙◌, sym, refl}
use Rattle.std.specs.List.{list_all, flat_map}
use Rattle.std.proofs.lemmas.List.Folds.{list_all-append, list_all-map}
use Rattle.rif_tree.specs.declared.tree.Term.{Term}
use Rattle.rif_tree.specs.declared.tree.Formula.{Formula}
use Rattle.rif_tree.specs.declared.tree.Formula.TheVariants.{And, Or, Not, Exists}
use Rattle.rif_tree.proofs.CallerLemmas.{and_first}
use Rattle.ready_order.specs.Arranging.{arrangement_of}
use Rattle.ready_order.specs.Conjuncts.{conjuncts_of, slots_of}
use Rattle.ready_order.specs.Declarations.{declared_of}
use Rattle.ready_order.specs.Laws.{AreDeclarationsKept, IsArrangementShaped}
use Rattle.ready_order.specs.Shapes.{Shape, shape_of}
use Rattle.ready_order.proofs.KeepingLemmas.{EachFormula, IsKept, IsWord, KeepsWord, as_conjunction, word_kept}
use Rattle.ready_order.proofs.KeepingLemmas.{conjunct_induction}
use Rattle.ready_order.proofs.LikenessLemmas.{is_alone, is_together, divided, same_between, declared_and, declared_or}
use Rattle.ready_order.proofs.LikenessLemmas.{declared_not, declared_exists, declared_frame}
use Rattle.ready_order.proofs.StayingLemmas.{shape_and, shape_or, shape_not, shape_exists, shape_frame}

-- ---- shape

abbrev AreAlone : Formula → List Formula → Type 0
AreAlone f conjuncts = list_all is_alone conjuncts ≡ true

together_and : (fs : List Formula) → is_together (And fs) ≡ list_all is_alone fs
together_and fs = ap (λ (shape : Shape). shape.together) (shape_and fs) ∙ list_all-map Shape.alone shape_of fs

alone_or : (fs : List Formula) → is_alone (Or fs) ≡ list_all is_together fs
alone_or fs = ap (λ (shape : Shape). shape.alone) (shape_or fs) ∙ list_all-map Shape.together shape_of fs

one_alone : (f : Formula) → is_alone f ≡ true → list_all is_alone (f ∷ []) ≡ true
one_alone f is = ap (λ b. b && true) is

members_alone : (fs : List Formula) → EachFormula (λ f. AreAlone f (conjuncts_of f)) fs
    → list_all is_alone (flat_map conjuncts_of fs) ≡ true
members_alone [] all = refl
members_alone (f ∷ fs) all =
    list_all-append is_alone (conjuncts_of f) (flat_map conjuncts_of fs)
    ∙ ap₂ (λ a b. a && b) all.0 (members_alone fs all.1)

branches_together : (fs : List Formula) → EachFormula (λ f. AreAlone f (conjuncts_of f)) fs
    → list_all is_together (map as_conjunction fs) ≡ true
branches_together [] all = refl
branches_together (f ∷ fs) all =
    ap₂ (λ a b. a && b) (together_and (conjuncts_of f) ∙ all.0) (branches_together fs all.1)

slots_alone : (o : Term) (pairs : List (Term × Term)) → list_all is_alone (slots_of o pairs) ≡ true
slots_alone o [] = refl
slots_alone o (pair ∷ pairs) =
    ap₂ (λ a b. a && b) (ap (λ (shape : Shape). shape.alone) (shape_frame o (pair ∷ []))) (slots_alone o pairs)

alone_kept : IsKept AreAlone
alone_kept = record {
  conjunction = members_alone;
  disjunction = λ fs all.
      one_alone (Or (map as_conjunction fs)) (alone_or (map as_conjunction fs) ∙ branches_together fs all);
  negation = λ f all.
      one_alone (Not (as_conjunction f)) (ap (λ (shape : Shape). shape.alone) (shape_not (as_conjunction f))
      ∙ together_and (conjuncts_of f) ∙ all);
  existence = λ vs f all.
      one_alone (Exists vs (as_conjunction f)) (ap (λ (shape : Shape). shape.alone)
      (shape_exists vs (as_conjunction f)) ∙ together_and (conjuncts_of f) ∙ all);
  frame = slots_alone;
  alone = λ f single. one_alone f (ap (λ (shape : Shape). shape.alone) single);
}

pub arrangement_shaped : IsArrangementShaped
arrangement_shaped f =
    let taken = (arrangement_of f).taken in
    let parts = divided [] (conjuncts_of f) in
    together_and taken
    ∙ and_first (list_all is_alone taken) (list_all is_alone parts.rest)
    (sym (list_all-append is_alone taken parts.rest) ∙ parts.whole.alone ∙ conjunct_induction AreAlone alone_kept f)

-- ---- declarations

slots_declared : (o : Term) (pairs : List (Term × Term)) → flat_map declared_of (slots_of o pairs) ≡ []
slots_declared o [] = refl
slots_declared o (pair ∷ pairs) =
    ap₂ (λ us ws. us ++ ws) (declared_frame o (pair ∷ [])) (slots_declared o pairs)

declared_word : IsWord declared_of (λ vs us. vs ++ us)
declared_word = record {
  and = declared_and;
  or = declared_or;
  not = declared_not;
  exists = declared_exists;
  slots = λ o pairs. slots_declared o pairs ∙ sym (declared_frame o pairs);
}

conjuncts_declared : (f : Formula) → flat_map declared_of (conjuncts_of f) ≡ declared_of f
conjuncts_declared f =
    conjunct_induction (KeepsWord declared_of) (word_kept declared_of (λ vs us. vs ++ us) declared_word) f

pub declarations_kept : AreDeclarationsKept
declarations_kept f none =
    let taken = (arrangement_of f).taken in
    let conjuncts = conjuncts_of f in
    let parts = divided [] conjuncts in
    let alike = parts.none none in
    same_between (declared_of (And taken)) (declared_of f) (flat_map declared_of taken)
    (flat_map declared_of conjuncts) (declared_and taken) (sym (conjuncts_declared f)) alike.declares
