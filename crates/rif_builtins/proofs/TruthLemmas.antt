-- When a formula is true under a row: form by form, and that it goes by the values of its free variables.
use Rattle.std.proofs.Common.{◌≡◌, ◌⊎◌, ℕ, Bool, true, false, List, [], ◌∷◌, ◌++◌, map, None, ap, ap₂}
use Rattle.std.proofs.Common.{◌∙◌, sym, refl, subst}
use Rattle.std.proofs.Common.{append-nil, inl, inr, cond, not, ◌&&◌}
use Rattle.std.specs.List.{AllByRecursion, flat_map}
use Rattle.std.specs.declared.option.Option.{Option}
use Rattle.rif_values.specs.declared.constant.Const.{Const}
use Rattle.rif_values.specs.Bindings.{Row, value_at, without_variables}
use Rattle.rif_tree.specs.declared.tree.Term.{Term}
use Rattle.rif_tree.specs.declared.tree.Formula.{Formula, map-Formula, roll-Formula}
use Rattle.rif_tree.specs.declared.tree.Formula.TheOpen.{Formula-F, And as AndLayer, Or as OrLayer, Not as NotLayer}
use Rattle.rif_tree.specs.declared.tree.Formula.TheOpen.{Exists as ExistsLayer, Equal as EqualLayer}
use Rattle.rif_tree.specs.declared.tree.Formula.TheOpen.{Member as MemberLayer, Frame as FrameLayer}
use Rattle.rif_tree.specs.declared.tree.Formula.TheOpen.{Atom as AtomLayer, Holds as HoldsLayer}
use Rattle.rif_tree.specs.declared.tree.Formula.TheFolds.{fold-roll-Formula, ind-Formula}
use Rattle.rif_tree.specs.declared.tree.Formula.TheFolds.{rec-roll-Formula}
use Rattle.rif_tree.specs.Variables.{has_variable, has_all, without, variables_of, variables_of_pair, slots_free}
use Rattle.rif_tree.specs.Variables.{free_of, free_step, together}
use Rattle.rif_tree.proofs.CallerLemmas.{has_all_elim, has_all_intro, has_without}
use Rattle.rif_builtins.specs.declared.pattern.Pattern.{Pattern}
use Rattle.rif_builtins.specs.declared.pattern.Pattern.TheVariants.{Atom as AtomPattern, Slot as SlotPattern}
use Rattle.rif_builtins.specs.declared.pattern.Pattern.TheVariants.{Member as MemberPattern}
use Rattle.rif_builtins.specs.Extensions.{FactBase, slots_of, holds_at}
use Rattle.rif_builtins.specs.ExtensionLaws.{variables_in, terms_of}
use Rattle.rif_builtins.specs.Truth.{AgreeOn, AgreeOutside, IsFactUnder, IsSome, truth_step, IsTrueUnder}
use Rattle.rif_builtins.proofs.FilledLemmas.{or_else, or_none, filled, value_filled, value_within}
use Rattle.rif_builtins.proofs.FilledLemmas.{agree_front, agree_back, alike_value, alike_values}
use Rattle.rif_builtins.proofs.RowLemmas.{is_there, has_is_there, value_without}

-- ---- the equation of truth

each_mapped : (X : Type 0) (formula : X → Formula) (k : Formula → Row → Type 0) (xs : List X) (row : Row)
    → AllByRecursion (λ x. k (formula x) row) xs ≡ AllByRecursion (λ f. k f row) (map formula xs)
each_mapped X formula k [] row = refl
each_mapped X formula k (x ∷ xs) row = λ i. k (formula x) row × each_mapped X formula k xs row i

some_mapped : (X : Type 0) (formula : X → Formula) (k : Formula → Row → Type 0) (xs : List X) (row : Row)
    → IsSome (λ x. k (formula x) row) xs ≡ IsSome (λ f. k f row) (map formula xs)
some_mapped X formula k [] row = refl
some_mapped X formula k (x ∷ xs) row = λ i. k (formula x) row ⊎ some_mapped X formula k xs row i

natural : (base : FactBase) (X : Type 0) (formula : X → Formula) (k : Formula → Row → Type 0) (x : Formula-F X)
    → truth_step base X formula (λ y. k (formula y)) x
    ≡ truth_step base Formula (λ f. f) k (map-Formula X Formula formula x)
natural base X formula k (AndLayer xs) = λ i row. each_mapped X formula k xs row i
natural base X formula k (OrLayer xs) = λ i row. some_mapped X formula k xs row i
natural base X formula k (NotLayer x) = refl
natural base X formula k (ExistsLayer vs x) = refl
natural base X formula k (EqualLayer a b) = refl
natural base X formula k (MemberLayer o c) = refl
natural base X formula k (FrameLayer o pairs) = refl
natural base X formula k (AtomLayer p ts) = refl
natural base X formula k (HoldsLayer pred ts) = refl

pub truth_roll : (base : FactBase) (x : Formula-F Formula)
    → IsTrueUnder base (roll-Formula x) ≡ truth_step base Formula (λ f. f) (IsTrueUnder base) x
truth_roll base x = rec-roll-Formula (Row → Type 0) (truth_step base) (natural base) x

pub to_layer : (base : FactBase) (x : Formula-F Formula) (row : Row) → IsTrueUnder base (roll-Formula x) row
    → truth_step base Formula (λ f. f) (IsTrueUnder base) x row
to_layer base x row is = subst (λ (P : Row → Type 0). P row) (truth_roll base x) is

pub from_layer : (base : FactBase) (x : Formula-F Formula) (row : Row)
    → truth_step base Formula (λ f. f) (IsTrueUnder base) x row → IsTrueUnder base (roll-Formula x) row
from_layer base x row is = subst (λ (P : Row → Type 0). P row) (sym (truth_roll base x)) is

-- ---- truth goes by the values of the free variables

module _ (base : FactBase) where
  abbrev pub Depends : Formula → Type 0
  Depends f = (row other : Row) → AgreeOn (free_of f) row other → IsTrueUnder base f row → IsTrueUnder base f other

  abbrev Known : Type 0
  Known = (f : Formula) × Depends f

  abbrev formula_in : Known → Formula
  formula_in e = e.0

  abbrev formulas_in : Formula-F Known → Formula-F Formula
  formulas_in y = map-Formula Known Formula formula_in y

  pub fact_depends : (p : Pattern) (row other : Row) → AgreeOn (flat_map variables_of (terms_of p)) row other
      → IsFactUnder base p row → IsFactUnder base p other
  fact_depends p row other agree is = record {
    fact = is.fact;
    there = is.there;
    kind = is.kind;
    values = sym (alike_values row other (terms_of p) agree) ∙ is.values;
  }

  slots_depend : (o : Term) (pairs : List (Term × Term)) (row other : Row) → AgreeOn (slots_free o pairs) row other
      → AllByRecursion (λ slot. IsFactUnder base slot row) (slots_of o pairs)
      → AllByRecursion (λ slot. IsFactUnder base slot other) (slots_of o pairs)
  slots_depend o [] row other agree each = tt
  slots_depend o (pair ∷ pairs) row other agree each =
      let us = variables_of o ++ variables_of_pair pair in
      let rest = slots_free o pairs in
      let same : us ≡ flat_map variables_of (o ∷ pair.0 ∷ pair.1 ∷ []) =
      ap (λ (xs : List ℕ). variables_of o ++ (variables_of pair.0 ++ xs))
      (sym (append-nil (variables_of pair.1))) in (
        fact_depends (SlotPattern o pair.0 pair.1) row other
            (subst (λ (xs : List ℕ). AgreeOn xs row other) same (agree_front us rest row other agree)) each.0,
        slots_depend o pairs row other (agree_back us rest row other agree) each.1,
      )

  each_depends : (es : List Known) (row other : Row)
      → AgreeOn (together (map free_of (map formula_in es))) row other
      → AllByRecursion (λ f. IsTrueUnder base f row) (map formula_in es)
      → AllByRecursion (λ f. IsTrueUnder base f other) (map formula_in es)
  each_depends [] row other agree each = tt
  each_depends (e ∷ es) row other agree each =
      let rest = together (map free_of (map formula_in es)) in (
        e.1 row other (agree_front (free_of e.0) rest row other agree) each.0,
        each_depends es row other (agree_back (free_of e.0) rest row other agree) each.1,
      )

  some_depends : (es : List Known) (row other : Row)
      → AgreeOn (together (map free_of (map formula_in es))) row other
      → IsSome (λ f. IsTrueUnder base f row) (map formula_in es)
      → IsSome (λ f. IsTrueUnder base f other) (map formula_in es)
  some_depends [] row other agree none = none
  some_depends (e ∷ es) row other agree (inl is) =
      inl (e.1 row other (agree_front (free_of e.0) (together (map free_of (map formula_in es))) row other agree) is)
  some_depends (e ∷ es) row other agree (inr is) =
      inr (some_depends es row other
      (agree_back (free_of e.0) (together (map free_of (map formula_in es))) row other agree) is)

  abbrev IsTrueInside : List ℕ → Formula → Row → Type 0
  IsTrueInside vs f row =
      (other : Row) × AgreeOutside vs row other × (has_all (variables_in other) (free_of f) ≡ true)
      × IsTrueUnder base f other

  exists_depends : (vs : List ℕ) (f : Formula) → Depends f → (row other : Row)
      → AgreeOn (without vs (free_of f)) row other → IsTrueInside vs f row → IsTrueInside vs f other
  exists_depends vs f known row other agree (next, outside, whole, is) =
      (mid, outer, has_all_intro (variables_in mid) (free_of f) there, known next mid inner is)
    where
      mid : Row
      mid = filled vs next (without_variables vs other)

      given : (v : ℕ) (b : Bool) → has_variable vs v ≡ b → (o : Option Const)
          → value_at (without_variables vs other) v ≡ o
          → value_at mid v ≡ or_else o (cond b (value_at next v) None)
      given v b e o w =
          value_filled vs next (without_variables vs other) v
          ∙ ap₂ or_else w (ap (λ c. cond c (value_at next v) None) e)

      outer : AgreeOutside vs other mid
      outer v out =
          sym (given v false out (value_at other v) (value_without vs other v out) ∙ or_none (value_at other v))

      inner : AgreeOn (free_of f) next mid
      inner v has = at (has_variable vs v) refl
        where
          at : (b : Bool) → has_variable vs v ≡ b → value_at next v ≡ value_at mid v
          at true e = sym (given v true e None (value_within vs other v e))
          at false e =
              sym (outside v e) ∙ agree v (has_without vs (free_of f) v ∙ ap₂ (λ a b. a && not b) has e) ∙ outer v e

      there : (v : ℕ) → has_variable (free_of f) v ≡ true → has_variable (variables_in mid) v ≡ true
      there v has =
          has_is_there mid v ∙ ap is_there (sym (inner v has)) ∙ sym (has_is_there next v)
          ∙ has_all_elim (variables_in next) (free_of f) whole v has

  inside_depends : (y : Formula-F Known) (row other : Row)
      → AgreeOn (free_step (map-Formula Formula (List ℕ) free_of (formulas_in y))) row other
      → truth_step base Formula (λ f. f) (IsTrueUnder base) (formulas_in y) row
      → truth_step base Formula (λ f. f) (IsTrueUnder base) (formulas_in y) other
  inside_depends (AndLayer es) row other agree is = each_depends es row other agree is
  inside_depends (OrLayer es) row other agree is = some_depends es row other agree is
  inside_depends (NotLayer e) row other agree is = λ so. is (e.1 other row (λ v has. sym (agree v has)) so)
  inside_depends (ExistsLayer vs e) row other agree is = exists_depends vs e.0 e.1 row other agree is
  inside_depends (EqualLayer a b) row other agree is =
      let us = variables_of a in
      let ws = variables_of b in (
        is.0,
        sym (alike_value row other a (agree_front us ws row other agree)) ∙ is.1,
        sym (alike_value row other b (agree_back us ws row other agree)) ∙ is.2,
      )
  inside_depends (MemberLayer o c) row other agree is =
      fact_depends (MemberPattern o c) row other
      (subst (λ (xs : List ℕ). AgreeOn (variables_of o ++ xs) row other) (sym (append-nil (variables_of c))) agree) is
  inside_depends (FrameLayer o pairs) row other agree is = slots_depend o pairs row other agree is
  inside_depends (AtomLayer p ts) row other agree is = fact_depends (AtomPattern p ts) row other agree is
  inside_depends (HoldsLayer pred ts) row other agree is =
      ap (holds_at pred) (sym (alike_values row other ts agree)) ∙ is

  layer_depends : (y : Formula-F Known) → Depends (roll-Formula (formulas_in y))
  layer_depends y row other agree is =
      let x = formulas_in y in
      from_layer base x other (inside_depends y row other
      (subst (λ (us : List ℕ). AgreeOn us row other) (fold-roll-Formula (List ℕ) free_step x) agree)
      (to_layer base x row is))

  pub depends : (f : Formula) → Depends f
  depends = ind-Formula Depends (λ x y is. subst (λ z. Depends (roll-Formula z)) is (layer_depends y))
