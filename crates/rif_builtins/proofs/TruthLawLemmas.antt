-- The laws of truth.
use Rattle.std.proofs.Common.{◌≡◌, ◌↔◌, ℕ, true, ◌||◌, ◌==◌, List, [], ◌∷◌, ◌++◌, ap, ◌∙◌, sym, subst}
use Rattle.std.specs.List.{AllByRecursion, Contains, list_any}
use Rattle.std.proofs.lemmas.List.Elements.{Contains-push, Contains-append_left, Contains-append_right, All-contains}
use Rattle.std.proofs.lemmas.List.Elements.{All-from_recursion}
use Rattle.rif_values.specs.Bindings.{Row}
use Rattle.rif_values.proofs.CallerLemmas.{total_bindings, exact_bindings}
use Rattle.rif_sets.proofs.CallerLemmas.{same_set}
use Rattle.rif_tree.specs.declared.tree.Formula.{Formula, roll-Formula}
use Rattle.rif_tree.specs.declared.tree.Formula.TheVariants.{And}
use Rattle.rif_tree.specs.declared.tree.Formula.TheVariants.{rolls-And, rolls-Or, rolls-Not, rolls-Exists}
use Rattle.rif_tree.specs.declared.tree.Formula.TheVariants.{rolls-Equal}
use Rattle.rif_tree.specs.declared.tree.Formula.TheVariants.{rolls-Member, rolls-Frame, rolls-Atom, rolls-Holds}
use Rattle.rif_tree.specs.declared.tree.Formula.TheOpen.{Formula-F, And as AndLayer, Or as OrLayer, Not as NotLayer}
use Rattle.rif_tree.specs.declared.tree.Formula.TheOpen.{Exists as ExistsLayer, Equal as EqualLayer}
use Rattle.rif_tree.specs.declared.tree.Formula.TheOpen.{Member as MemberLayer, Frame as FrameLayer}
use Rattle.rif_tree.specs.declared.tree.Formula.TheOpen.{Atom as AtomLayer, Holds as HoldsLayer}
use Rattle.rif_tree.specs.Laws.{AreSame}
use Rattle.rif_tree.specs.Variables.{has_variable, free_of}
use Rattle.rif_tree.proofs.CallerLemmas.{part_free, free_and, has_append, same_tests}
use Rattle.rif_builtins.specs.Extensions.{FactBase, through, extensions_of}
use Rattle.rif_builtins.specs.ExtensionLaws.{IsExtension}
use Rattle.rif_builtins.specs.Truth.{truth_step, IsTrueUnder, IsTruthByForm, IsTrueByForm, IsTruthOfFree}
use Rattle.rif_builtins.specs.Truth.{IsExtensionTrue, IsSettledByTruth, IsOrderFree}
use Rattle.rif_builtins.proofs.FormLemmas.{is_set_of_extensions}
use Rattle.rif_builtins.proofs.MemberLemmas.{any_flat, any_to, any_from, row_in, is_row}
use Rattle.rif_builtins.proofs.RowLemmas.{extends_same}
use Rattle.rif_builtins.proofs.TruthExactLemmas.{exact}
use Rattle.rif_builtins.proofs.TruthStepLemmas.{iff_then, some_contains}
use Rattle.rif_builtins.proofs.TruthLemmas.{depends, to_layer, from_layer}

-- ---- form by form

each_contains : {X : Type 0} (P : X → Type 0) (xs : List X)
    → AllByRecursion P xs ↔ ((x : X) → Contains xs x → P x)
each_contains P xs = (λ each x there. All-contains P xs x (All-from_recursion P xs each) there, back xs)
  where
    back : (ys : List _) → ((x : _) → Contains ys x → P x) → AllByRecursion P ys
    back [] each = tt
    back (y ∷ ys) each = (
      each y (Contains-append_left (y ∷ []) ys y (Contains-push [] y)),
      back ys (λ x there. each x (Contains-append_right (y ∷ []) ys x there)),
    )

module _ (base : FactBase) (row : Row) where
  by_layer : (f : Formula) (x : Formula-F Formula) → f ≡ roll-Formula x
      → IsTrueUnder base f row ↔ truth_step base Formula (λ g. g) (IsTrueUnder base) x row
  by_layer f x is = (
    λ so. to_layer base x row (subst (λ g. IsTrueUnder base g row) is so),
    λ so. subst (λ g. IsTrueUnder base g row) (sym is) (from_layer base x row so),
  )

  pub truth_by_form : IsTruthByForm base row
  truth_by_form = record {
    conjunction = λ fs. iff_then (by_layer (And fs) (AndLayer fs) (sym (rolls-And fs)))
        (each_contains (λ f. IsTrueUnder base f row) fs);
    disjunction = λ fs. iff_then (by_layer _ (OrLayer fs) (sym (rolls-Or fs))) (
      (some_contains (λ f. IsTrueUnder base f row) fs).1,
      (some_contains (λ f. IsTrueUnder base f row) fs).0,
    );
    negation = λ f. by_layer _ (NotLayer f) (sym (rolls-Not f));
    existential = λ vs f. by_layer _ (ExistsLayer vs f) (sym (rolls-Exists vs f));
    equality = λ a b. by_layer _ (EqualLayer a b) (sym (rolls-Equal a b));
    membership = λ o c. by_layer _ (MemberLayer o c) (sym (rolls-Member o c));
    frame = λ o pairs. by_layer _ (FrameLayer o pairs) (sym (rolls-Frame o pairs));
    atom = λ p ts. by_layer _ (AtomLayer p ts) (sym (rolls-Atom p ts));
    predicate = λ pred ts. by_layer _ (HoldsLayer pred ts) (sym (rolls-Holds pred ts));
  }

pub true_by_form : IsTrueByForm
true_by_form base row = truth_by_form base row

pub truth_of_free : IsTruthOfFree
truth_of_free base f row other agree =
    (depends base f row other agree, depends base f other row (λ v has. sym (agree v has)))

-- ---- extensions

pub extension_true : IsExtensionTrue
extension_true base f held vs row next at_row =
    iff_then ((is_set_of_extensions base row f).1 next)
    (subst (λ (xs : List ℕ). Contains (through base f (row ∷ [])) next
    ↔ (IsExtension row (vs ++ xs) next × IsTrueUnder base f next)) (part_free f)
    (exact base f held vs row next at_row.in_order at_row.variables at_row.within at_row.scoped at_row.ready))

same_behind : (vs us ws : List ℕ) → AreSame us ws → AreSame (vs ++ us) (vs ++ ws)
same_behind vs us ws same v =
    has_append vs us v ∙ ap (λ b. has_variable vs v || b) (same v) ∙ sym (has_append vs ws v)

pub settled_by_truth : IsSettledByTruth
settled_by_truth base f g held vs row first second same alike =
    same_set total_bindings exact_bindings (extensions_of base row f) (extensions_of base row g)
    (is_set_of_extensions base row f).0 (is_set_of_extensions base row g).0
    (λ next. same_tests (list_any (is_row next) (extensions_of base row f))
    (list_any (is_row next) (extensions_of base row g))
    (λ there. (row_in (extensions_of base row g) next).1
    (to next ((row_in (extensions_of base row f) next).0 there)))
    (λ there. (row_in (extensions_of base row f) next).1
    (back next ((row_in (extensions_of base row g) next).0 there))))
  where
    both : AreSame (vs ++ free_of f) (vs ++ free_of g)
    both = same_behind vs (free_of f) (free_of g) same

    to : (next : Row) → Contains (extensions_of base row f) next → Contains (extensions_of base row g) next
    to next there =
        let is = (extension_true base f held vs row next first).0 there in
        (extension_true base g held vs row next second).1
        (extends_same row next (vs ++ free_of f) (vs ++ free_of g) both is.0, (alike next).0 is.1)

    back : (next : Row) → Contains (extensions_of base row g) next → Contains (extensions_of base row f) next
    back next there =
        let is = (extension_true base g held vs row next second).0 there in
        (extension_true base f held vs row next first).1
        (extends_same row next (vs ++ free_of g) (vs ++ free_of f) (λ v. sym (both v)) is.0, (alike next).1 is.1)

-- ---- the order of conjuncts

free_among : (fs gs : List Formula) → ((f : Formula) → Contains fs f → Contains gs f) → (v : ℕ)
    → has_variable (free_of (And fs)) v ≡ true → has_variable (free_of (And gs)) v ≡ true
free_among fs gs among v has =
    let test = λ (u : ℕ). u == v in
    let in_one = λ (f : Formula). has_variable (free_of f) v in
    let found = any_to in_one fs (sym (any_flat test free_of fs)
    ∙ sym (ap (λ (xs : List ℕ). has_variable xs v) (free_and fs)) ∙ has) in
    ap (λ (xs : List ℕ). has_variable xs v) (free_and gs) ∙ any_flat test free_of gs
    ∙ any_from in_one gs found.0 (among found.0 found.1) found.2

pub order_free : IsOrderFree
order_free base fs gs held vs row first second same =
    settled_by_truth base (And fs) (And gs) held vs row first second
    (λ v. same_tests (has_variable (free_of (And fs)) v) (has_variable (free_of (And gs)) v)
    (free_among fs gs (λ f. (same f).0) v) (free_among gs fs (λ f. (same f).1) v))
    (λ next.
    let one = (truth_by_form base next).conjunction fs in
    let two = (truth_by_form base next).conjunction gs in (
      λ is. two.1 (λ f there. one.0 is f ((same f).1 there)),
      λ is. one.1 (λ f there. two.0 is f ((same f).0 there)),
    ))
