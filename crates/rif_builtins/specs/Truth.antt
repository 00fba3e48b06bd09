-- When a formula is true under a row, whatever the order of its parts, and that its extensions are the rows under
-- which it is true: the statements of further laws in src/laws.rt.
--     AgreeOn vs row other       both rows have the same values, or none, for the variables vs
--     AgreeOutside vs row other  and for all variables but vs
--     IsFactUnder base p row     some fact of the base is of the pattern's kind, and its places are the values that
--                                the pattern's terms have under the row
--     IsSome P xs                P holds of some of xs
--     IsTrueUnder base f row     the formula is true under the row
--     IsTruthByForm base row     what it takes, form by form
--     IsReadyAt row held vs f    a row of the variables vs, for which the formula is ready, and in which no variable
--                                is declared that holds already
-- A row stands for the values that it gives, so that its order doesn't matter here. An `Exists` is true where its
-- formula is true under some row that has a value for each variable free in it, and other values at most for the
-- variables that the `Exists` declares.
-- Source: RIF-PRD, "Matching substitution" and "Condition satisfaction".
use Rattle.std.specs.Prelude.{◌≡◌, ◌↔◌, ◌⊎◌, ℕ, true, false, List, [], ◌∷◌, ◌++◌, Some}
use Rattle.std.specs.List.{AllByRecursion, Contains}
use Rattle.rif_values.specs.declared.constant.Const.{Const}
use Rattle.rif_values.specs.declared.fact.Fact.{Fact}
use Rattle.rif_values.specs.Bindings.{Row, IsBinding, value_at}
use Rattle.rif_values.specs.Places.{places_of}
use Rattle.rif_tree.specs.declared.builtin.Pred.{Pred}
use Rattle.rif_tree.specs.declared.tree.Term.{Term}
use Rattle.rif_tree.specs.declared.tree.Formula.{Formula}
use Rattle.rif_tree.specs.declared.tree.Formula.TheVariants.{And, Or, Not, Exists, Equal, Member, Frame, Atom, Holds}
use Rattle.rif_tree.specs.declared.tree.Formula.TheOpen.{Formula-F, And as AndLayer, Or as OrLayer, Not as NotLayer}
use Rattle.rif_tree.specs.declared.tree.Formula.TheOpen.{Exists as ExistsLayer, Equal as EqualLayer}
use Rattle.rif_tree.specs.declared.tree.Formula.TheOpen.{Member as MemberLayer, Frame as FrameLayer}
use Rattle.rif_tree.specs.declared.tree.Formula.TheOpen.{Atom as AtomLayer, Holds as HoldsLayer}
use Rattle.rif_tree.specs.declared.tree.Formula.TheFolds.{rec-Formula}
use Rattle.rif_tree.specs.Laws.{AreSame}
use Rattle.rif_tree.specs.Ready.{is_ready}
use Rattle.rif_tree.specs.Scoped.{is_scoped}
use Rattle.rif_tree.specs.Variables.{has_variable, has_all, free_of}
use Rattle.rif_builtins.specs.declared.pattern.Pattern.{Pattern}
use Rattle.rif_builtins.specs.declared.pattern.Pattern.TheVariants.{Atom as AtomPattern}
use Rattle.rif_builtins.specs.declared.pattern.Pattern.TheVariants.{Member as MemberPattern}
use Rattle.rif_builtins.specs.Extensions.{FactBase, matchable, holds_at, slots_of, extensions_of}
use Rattle.rif_builtins.specs.ExtensionLaws.{variables_in, IsExtension, terms_of, is_of_kind}
use Rattle.rif_builtins.specs.Values.{value_of, values_of}

abbrev pub AgreeOn : List ℕ → Row → Row → Type 0
AgreeOn vs row other = (v : ℕ) → has_variable vs v ≡ true → value_at row v ≡ value_at other v

abbrev pub AgreeOutside : List ℕ → Row → Row → Type 0
AgreeOutside vs row other = (v : ℕ) → has_variable vs v ≡ false → value_at row v ≡ value_at other v

pub record IsFactUnder (base : FactBase) (pattern : Pattern) (row : Row) : Type 0 where
  pub fact : Fact
  pub there : Contains (matchable base) fact
  pub kind : is_of_kind pattern fact ≡ true
  pub values : values_of row (terms_of pattern) ≡ Some (places_of fact)

abbrev pub IsSome : {X : Type 0} → (X → Type 0) → List X → Type 0
IsSome P [] = ⊥
IsSome P (x ∷ xs) = P x ⊎ IsSome P xs

-- one formula, with what it takes that each formula inside it is true
abbrev pub truth_step : FactBase → (X : Type 0) → (X → Formula) → (X → Row → Type 0) → Formula-F X → Row → Type 0
truth_step base X formula is_true (AndLayer members) row = AllByRecursion (λ x. is_true x row) members
truth_step base X formula is_true (OrLayer branches) row = IsSome (λ x. is_true x row) branches
truth_step base X formula is_true (NotLayer inner) row = is_true inner row → ⊥
truth_step base X formula is_true (ExistsLayer vs inner) row =
    (other : Row) × AgreeOutside vs row other × (has_all (variables_in other) (free_of (formula inner)) ≡ true)
    × is_true inner other
truth_step base X formula is_true (EqualLayer a b) row =
    (c : Const) × (value_of row a ≡ Some c) × (value_of row b ≡ Some c)
truth_step base X formula is_true (MemberLayer o c) row = IsFactUnder base (MemberPattern o c) row
truth_step base X formula is_true (FrameLayer o pairs) row =
    AllByRecursion (λ slot. IsFactUnder base slot row) (slots_of o pairs)
truth_step base X formula is_true (AtomLayer p ts) row = IsFactUnder base (AtomPattern p ts) row
truth_step base X formula is_true (HoldsLayer pred ts) row = holds_at pred (values_of row ts) ≡ true

abbrev pub IsTrueUnder : FactBase → Formula → Row → Type 0
IsTrueUnder base = rec-Formula (Row → Type 0) (truth_step base)

-- what truth takes, form by form
pub record IsTruthByForm (base : FactBase) (row : Row) : Type 0 where
  pub conjunction : (fs : List Formula)
      → IsTrueUnder base (And fs) row ↔ ((f : Formula) → Contains fs f → IsTrueUnder base f row)
  pub disjunction : (fs : List Formula)
      → IsTrueUnder base (Or fs) row ↔ ((f : Formula) × Contains fs f × IsTrueUnder base f row)
  pub negation : (f : Formula) → IsTrueUnder base (Not f) row ↔ (IsTrueUnder base f row → ⊥)
  pub existential : (vs : List ℕ) (f : Formula)
      → IsTrueUnder base (Exists vs f) row
      ↔ ((other : Row) × AgreeOutside vs row other × (has_all (variables_in other) (free_of f) ≡ true)
      × IsTrueUnder base f other)
  pub equality : (a b : Term)
      → IsTrueUnder base (Equal a b) row ↔ ((c : Const) × (value_of row a ≡ Some c) × (value_of row b ≡ Some c))
  pub membership : (o c : Term) → IsTrueUnder base (Member o c) row ↔ IsFactUnder base (MemberPattern o c) row
  pub frame : (o : Term) (pairs : List (Term × Term))
      → IsTrueUnder base (Frame o pairs) row
      ↔ AllByRecursion (λ slot. IsFactUnder base slot row) (slots_of o pairs)
  pub atom : (p : Const) (ts : List Term) → IsTrueUnder base (Atom p ts) row ↔ IsFactUnder base (AtomPattern p ts) row
  pub predicate : (pred : Pred) (ts : List Term)
      → IsTrueUnder base (Holds pred ts) row ↔ (holds_at pred (values_of row ts) ≡ true)

abbrev pub IsTrueByForm : Type 0
IsTrueByForm = (base : FactBase) (row : Row) → IsTruthByForm base row

-- a formula is true under each of two rows that agree on its free variables, or under neither
abbrev pub IsTruthOfFree : Type 0
IsTruthOfFree = (base : FactBase) (f : Formula) (row other : Row) → AgreeOn (free_of f) row other
    → IsTrueUnder base f row ↔ IsTrueUnder base f other

pub record IsReadyAt (row : Row) (held vs : List ℕ) (f : Formula) : Type 0 where
  pub in_order : IsBinding row
  pub variables : AreSame (variables_in row) vs
  pub within : has_all held vs ≡ true
  pub scoped : is_scoped held f ≡ true
  pub ready : is_ready vs f ≡ true

-- the extensions of a row are the rows that extend it by exactly the formula's free variables and under which the
-- formula is true
abbrev pub IsExtensionTrue : Type 0
IsExtensionTrue = (base : FactBase) (f : Formula) (held vs : List ℕ) (row next : Row) → IsReadyAt row held vs f
    → Contains (extensions_of base row f) next ↔ (IsExtension row (vs ++ free_of f) next × IsTrueUnder base f next)

-- formulas with the same free variables that are true under the same rows have the same extensions
abbrev pub IsSettledByTruth : Type 0
IsSettledByTruth = (base : FactBase) (f g : Formula) (held vs : List ℕ) (row : Row) → IsReadyAt row held vs f
    → IsReadyAt row held vs g → AreSame (free_of f) (free_of g)
    → ((next : Row) → IsTrueUnder base f next ↔ IsTrueUnder base g next)
    → extensions_of base row f ≡ extensions_of base row g

-- the order of conjuncts doesn't matter, where both are ready
abbrev pub IsOrderFree : Type 0
IsOrderFree = (base : FactBase) (fs gs : List Formula) (held vs : List ℕ) (row : Row) → IsReadyAt row held vs (And fs)
    → IsReadyAt row held vs (And gs) → ((f : Formula) → Contains fs f ↔ Contains gs f)
    → extensions_of base row (And fs) ≡ extensions_of base row (And gs)
