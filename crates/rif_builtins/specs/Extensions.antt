-- Which values of variables satisfy a formula. A formula takes rows to rows: each given row to the rows that
-- extend it and satisfy the formula.
--     FactBase                   what a condition is matched against: the facts of a state
--     base_of facts              the base that has these facts
--     matchable base             the facts that patterns are matched against
--     match_fact p row f         the row that extends the row by the pattern's variables and gives the pattern's
--                                terms, from left to right, the fact's constants as values, if there is one
--     matched base p rows        the rows taken through a pattern: each with each fact that agrees
--     through base f rows        the rows taken through the formula
--     extensions_of base row f   the rows that extend the row and satisfy the formula, in order without repeats
-- Source: RIF-PRD, "Matching substitution" and "Condition satisfaction". In a ready order (docs/PROFILE.md,
-- "Ready order") each term that a row is asked for has its variables bound.
use Rattle.std.specs.Prelude.{ℕ, Bool, false, ◌==◌, List, [], ◌∷◌, map, filter, length, Some, None, if◌then◌else◌}
use Rattle.std.specs.List.{flat_map, filter_map}
use Rattle.std.specs.Option.{option_and_then}
use Rattle.std.specs.declared.option.Option.{Option}
use Rattle.rif_values.specs.declared.constant.Const.{Const}
use Rattle.rif_values.specs.declared.fact.Fact.{Fact}
use Rattle.rif_values.specs.declared.fact.Fact.TheVariants.{Atom, Frame, Member}
use Rattle.rif_tree.specs.declared.builtin.Pred.{Pred}
use Rattle.rif_tree.specs.declared.tree.Term.{Term}
use Rattle.rif_tree.specs.declared.tree.Formula.{Formula}
use Rattle.rif_tree.specs.declared.tree.Formula.TheOpen.{Formula-F, And as AndLayer, Or as OrLayer, Not as NotLayer}
use Rattle.rif_tree.specs.declared.tree.Formula.TheOpen.{Exists as ExistsLayer, Equal as EqualLayer}
use Rattle.rif_tree.specs.declared.tree.Formula.TheOpen.{Member as MemberLayer, Frame as FrameLayer}
use Rattle.rif_tree.specs.declared.tree.Formula.TheOpen.{Atom as AtomLayer, Holds as HoldsLayer}
use Rattle.rif_tree.specs.declared.tree.Formula.TheFolds.{fold-Formula}
use Rattle.rif_builtins.specs.declared.pattern.Pattern.{Pattern}
use Rattle.rif_builtins.specs.declared.pattern.Pattern.TheVariants.{Atom as AtomPattern, Slot as SlotPattern}
use Rattle.rif_builtins.specs.declared.pattern.Pattern.TheVariants.{Member as MemberPattern}
use Rattle.rif_values.specs.Bindings.{Row, value_at, bound, without_variables}
use Rattle.rif_values.specs.Order.{binding_cmp}
use Rattle.rif_values.specs.Facts.{same_const}
use Rattle.rif_values.specs.Sets.{ordered}
use Rattle.rif_builtins.specs.Builtins.{pred_value}
use Rattle.rif_tree.specs.Variables.{variable_of}
use Rattle.rif_builtins.specs.Values.{value_of, values_of}

-- what a condition is matched against
pub record FactBase : Type 0 where
  pub facts : List Fact

abbrev pub base_of : List Fact → FactBase
base_of facts = record { facts = facts }

-- the facts that patterns are matched against
abbrev pub matchable : FactBase → List Fact
matchable base = base.facts

-- the row, where the value is there and is this constant
abbrev pub agreeing : Row → Option Const → Const → Option Row
agreeing row None c = None
agreeing row (Some d) c = if same_const d c then Some row else None

-- the row, where the variable has this value, or with the variable bound to it where it has none
abbrev pub binding_to : Row → ℕ → Option Const → Const → Option Row
binding_to row v None c = Some (bound row v c)
binding_to row v (Some d) c = if same_const d c then Some row else None

-- the row in which the term has this value
abbrev pub match_as : Option ℕ → Row → Term → Const → Option Row
match_as None row t c = agreeing row (value_of row t) c
match_as (Some v) row t c = binding_to row v (value_at row v) c

abbrev pub match_term : Row → Term → Const → Option Row
match_term row t c = match_as (variable_of t) row t c

-- the row in which the terms have these values, from left to right
abbrev pub match_terms : List Term → Row → List Const → Option Row
match_terms [] row [] = Some row
match_terms [] row (c ∷ cs) = None
match_terms (t ∷ ts) row [] = None
match_terms (t ∷ ts) row (c ∷ cs) = option_and_then (λ next. match_terms ts next cs) (match_term row t c)

abbrev pub match_fact : Pattern → Row → Fact → Option Row
match_fact (AtomPattern p ts) row (Atom q cs) = if same_const p q then match_terms ts row cs else None
match_fact (AtomPattern p ts) row (Frame o s v) = None
match_fact (AtomPattern p ts) row (Member o c) = None
match_fact (SlotPattern o s v) row (Atom q cs) = None
match_fact (SlotPattern o s v) row (Frame p t w) = match_terms (o ∷ s ∷ v ∷ []) row (p ∷ t ∷ w ∷ [])
match_fact (SlotPattern o s v) row (Member p d) = None
match_fact (MemberPattern o c) row (Atom q cs) = None
match_fact (MemberPattern o c) row (Frame p t w) = None
match_fact (MemberPattern o c) row (Member p d) = match_terms (o ∷ c ∷ []) row (p ∷ d ∷ [])

-- each row with each fact that agrees with the pattern
abbrev pub matched : FactBase → Pattern → List Row → List Row
matched base pattern rows = flat_map (λ row. filter_map (match_fact pattern row) (matchable base)) rows

-- taken through each in turn
abbrev pub in_turn : List (List Row → List Row) → List Row → List Row
in_turn [] rows = rows
in_turn (step ∷ steps) rows = in_turn steps (step rows)

-- an equation binds the side that is a variable without a value, and else asks that the two values are the same
abbrev pub equal_row : Term → Term → Row → Option Row
equal_row a b row = elim (value_of row b) [
  | Some d ↦ match_term row a d
  | None ↦ option_and_then (match_term row b) (value_of row a)
]

-- whether a predicate holds of the terms' values
abbrev pub holds_at : Pred → Option (List Const) → Bool
holds_at pred None = false
holds_at pred (Some cs) = elim (pred_value pred cs) [ None ↦ false | Some b ↦ b ]

-- a frame's slots, one pattern each
abbrev pub slots_of : Term → List (Term × Term) → List Pattern
slots_of object pairs = map (λ pair. SlotPattern object pair.0 pair.1) pairs

-- one formula, with what each formula inside it does to rows in that one's place
abbrev pub through_step : FactBase → Formula-F (List Row → List Row) → List Row → List Row
through_step base (AndLayer members) rows = in_turn members rows
through_step base (OrLayer branches) rows = flat_map (λ branch. branch rows) branches
through_step base (NotLayer inner) rows = filter (λ row. length (inner (row ∷ [])) == 0) rows
through_step base (ExistsLayer vs inner) rows = map (without_variables vs) (inner rows)
through_step base (EqualLayer a b) rows = filter_map (equal_row a b) rows
through_step base (MemberLayer o c) rows = matched base (MemberPattern o c) rows
through_step base (FrameLayer o pairs) rows = in_turn (map (matched base) (slots_of o pairs)) rows
through_step base (AtomLayer p ts) rows = matched base (AtomPattern p ts) rows
through_step base (HoldsLayer pred ts) rows = filter (λ row. holds_at pred (values_of row ts)) rows

abbrev pub through : FactBase → Formula → List Row → List Row
through base = fold-Formula (List Row → List Row) (through_step base)

abbrev pub extensions_of : FactBase → Row → Formula → List Row
extensions_of base row formula = ordered binding_cmp (through base formula (row ∷ []))
