-- Which rows a formula gives, whatever the order in which it lists them: what it gives of some rows is what it gives
-- of each of them. Said of any test of rows: some row that the formula gives passes it exactly where, for one of the
-- given rows, some row passes that the formula gives of that one alone.
use Rattle.std.proofs.Common.{◌≡◌, ◌↔◌, Bool, true, false, cond, ◌&&◌, ◌||◌, ◌==◌, List, [], ◌∷◌, length}
use Rattle.std.proofs.Common.{map, filter, Some, None, ap, ap₂, ◌∙◌, sym, refl, subst, arith}
use Rattle.std.specs.List.{Contains, list_any, flat_map, filter_map, cons_option}
use Rattle.std.specs.Ordering.{eq_by_cmp}
use Rattle.std.specs.declared.option.Option.{Option}
use Rattle.std.proofs.lemmas.List.Folds.{list_any-append, Any-from_list_any, list_any-from_Any}
use Rattle.rif_values.specs.Bindings.{Row, without_variables}
use Rattle.rif_values.specs.Order.{binding_cmp}
use Rattle.rif_values.proofs.CallerLemmas.{total_bindings, exact_bindings}
use Rattle.rif_sets.proofs.CallerLemmas.{has_contains, equal_is, equal_itself}
use Rattle.rif_tree.specs.declared.tree.Term.{Term}
use Rattle.rif_tree.specs.declared.tree.Formula.{Formula, map-Formula, roll-Formula}
use Rattle.rif_tree.specs.declared.tree.Formula.TheOpen.{Formula-F, And as AndLayer, Or as OrLayer, Not as NotLayer}
use Rattle.rif_tree.specs.declared.tree.Formula.TheOpen.{Exists as ExistsLayer, Equal as EqualLayer}
use Rattle.rif_tree.specs.declared.tree.Formula.TheOpen.{Member as MemberLayer, Frame as FrameLayer}
use Rattle.rif_tree.specs.declared.tree.Formula.TheOpen.{Atom as AtomLayer, Holds as HoldsLayer}
use Rattle.rif_tree.specs.declared.tree.Formula.TheFolds.{fold-roll-Formula, ind-Formula}
use Rattle.rif_builtins.specs.declared.pattern.Pattern.{Pattern}
use Rattle.rif_builtins.specs.declared.pattern.Pattern.TheVariants.{Atom as AtomPattern, Slot as SlotPattern}
use Rattle.rif_builtins.specs.declared.pattern.Pattern.TheVariants.{Member as MemberPattern}
use Rattle.rif_builtins.specs.Extensions.{FactBase, matchable, match_fact, matched, in_turn, slots_of, equal_row}
use Rattle.rif_builtins.specs.Extensions.{holds_at, through, through_step}
use Rattle.rif_builtins.specs.Values.{values_of}

-- ---- an element that passes a test

pub any_to : {X : Type 0} (test : X → Bool) (xs : List X) → list_any test xs ≡ true
    → (x : X) × Contains xs x × (test x ≡ true)
any_to test xs is = let found = Any-from_list_any test xs is in (found.1, (found.0, found.2, found.3), found.4)

pub any_from : {X : Type 0} (test : X → Bool) (xs : List X) (x : X) → Contains xs x → test x ≡ true
    → list_any test xs ≡ true
any_from test xs x there is = list_any-from_Any test xs (there.0, x, there.1, there.2, is)

-- tests that agree
pub any_same : {X : Type 0} (test other : X → Bool) (xs : List X) → ((x : X) → test x ≡ other x)
    → list_any test xs ≡ list_any other xs
any_same test other [] same = refl
any_same test other (x ∷ xs) same = ap₂ (λ a b. a || b) (same x) (any_same test other xs same)

any_or : {X : Type 0} (test other : X → Bool) (xs : List X)
    → list_any (λ x. test x || other x) xs ≡ (list_any test xs || list_any other xs)
any_or test other [] = refl
any_or test other (x ∷ xs) = let rest = any_or test other xs in grind (arith, rest)

pub any_map : {X Y : Type 0} (test : Y → Bool) (h : X → Y) (xs : List X)
    → list_any test (map h xs) ≡ list_any (λ x. test (h x)) xs
any_map test h [] = refl
any_map test h (x ∷ xs) = ap (λ b. test (h x) || b) (any_map test h xs)

pub any_filter : {X : Type 0} (test keeps : X → Bool) (xs : List X)
    → list_any test (filter keeps xs) ≡ list_any (λ x. keeps x && test x) xs
any_filter test keeps [] = refl
any_filter test keeps (x ∷ xs) =
    elim (keeps x) as (λ b. list_any test (cond b (x ∷ filter keeps xs) (filter keeps xs))
    ≡ ((b && test x) || list_any (λ x. keeps x && test x) xs)) [
      | true ↦ ap (λ b. test x || b) (any_filter test keeps xs)
      | false ↦ any_filter test keeps xs
    ]

pub any_flat : {X Y : Type 0} (test : Y → Bool) (h : X → List Y) (xs : List X)
    → list_any test (flat_map h xs) ≡ list_any (λ x. list_any test (h x)) xs
any_flat test h [] = refl
any_flat test h (x ∷ xs) =
    list_any-append test (h x) (flat_map h xs) ∙ ap (λ b. list_any test (h x) || b) (any_flat test h xs)

-- whether something is there and passes
abbrev pub passes : {Y : Type 0} → (Y → Bool) → Option Y → Bool
passes test None = false
passes test (Some y) = test y

any_cons : {Y : Type 0} (test : Y → Bool) (o : Option Y) (ys : List Y)
    → list_any test (cons_option o ys) ≡ (passes test o || list_any test ys)
any_cons test None ys = refl
any_cons test (Some y) ys = refl

pub any_filter_map : {X Y : Type 0} (test : Y → Bool) (h : X → Option Y) (xs : List X)
    → list_any test (filter_map h xs) ≡ list_any (λ x. passes test (h x)) xs
any_filter_map test h [] = refl
any_filter_map test h (x ∷ xs) =
    any_cons test (h x) (filter_map h xs) ∙ ap (λ b. passes test (h x) || b) (any_filter_map test h xs)

-- ---- rows, by the test that is true of one alone

abbrev pub is_row : Row → Row → Bool
is_row next = eq_by_cmp binding_cmp next

pub row_same : (next row : Row) → is_row next row ≡ true → next ≡ row
row_same next row is = equal_is total_bindings exact_bindings next row is

pub row_itself : (row : Row) → is_row row row ≡ true
row_itself row = equal_itself total_bindings exact_bindings row

pub row_in : (rows : List Row) (next : Row) → (list_any (is_row next) rows ≡ true) ↔ Contains rows next
row_in rows next = has_contains total_bindings exact_bindings rows next

-- a list has a row exactly where some element of another passes a test
pub row_by : {X : Type 0} (rows : List Row) (next : Row) (test : X → Bool) (xs : List X)
    → list_any (is_row next) rows ≡ list_any test xs
    → Contains rows next ↔ ((x : X) × Contains xs x × (test x ≡ true))
row_by rows next test xs same = (
  λ there. any_to test xs (sym same ∙ (row_in rows next).1 there),
  λ found. (row_in rows next).0 (same ∙ any_from test xs found.0 found.1 found.2),
)

-- ---- what takes each row by itself

abbrev pub IsSpread : (List Row → List Row) → Type 0
IsSpread step =
    (test : Row → Bool) (rows : List Row)
    → list_any test (step rows) ≡ list_any (λ row. list_any test (step (row ∷ []))) rows

or_false : (a : Bool) → (a || false) ≡ a
or_false true = refl
or_false false = refl

-- what goes by a test of each row
spread_by : (step : List Row → List Row) (each : (Row → Bool) → Row → Bool)
    → ((test : Row → Bool) (rows : List Row) → list_any test (step rows) ≡ list_any (each test) rows) → IsSpread step
spread_by step each is test rows =
    is test rows
    ∙ any_same (each test) (λ row. list_any test (step (row ∷ []))) rows
    (λ row. sym (is test (row ∷ []) ∙ or_false (each test row)))

spread_same : IsSpread (λ rows. rows)
spread_same = spread_by (λ rows. rows) (λ test. test) (λ test rows. refl)

spread_then : (first later : List Row → List Row) → IsSpread first → IsSpread later
    → IsSpread (λ rows. later (first rows))
spread_then first later is also test rows =
    also test (first rows)
    ∙ is (λ row. list_any test (later (row ∷ []))) rows
    ∙ any_same (λ row. list_any (λ mid. list_any test (later (mid ∷ []))) (first (row ∷ [])))
    (λ row. list_any test (later (first (row ∷ [])))) rows (λ row. sym (also test (first (row ∷ []))))

spread_filter : (keeps : Row → Bool) → IsSpread (filter keeps)
spread_filter keeps = spread_by (filter keeps) (λ test row. keeps row && test row)
    (λ test rows. any_filter test keeps rows)

spread_filter_map : (h : Row → Option Row) → IsSpread (filter_map h)
spread_filter_map h = spread_by (filter_map h) (λ test row. passes test (h row))
    (λ test rows. any_filter_map test h rows)

spread_map : (h : Row → Row) (step : List Row → List Row) → IsSpread step → IsSpread (λ rows. map h (step rows))
spread_map h step is test rows =
    any_map test h (step rows) ∙ is (λ row. test (h row)) rows
    ∙ any_same (λ row. list_any (λ next. test (h next)) (step (row ∷ [])))
    (λ row. list_any test (map h (step (row ∷ [])))) rows
    (λ row. sym (any_map test h (step (row ∷ []))))

pub spread_matched : (base : FactBase) (p : Pattern) → IsSpread (matched base p)
spread_matched base p =
    spread_by (matched base p) (λ test row. list_any test (filter_map (match_fact p row) (matchable base)))
    (λ test rows. any_flat test (λ row. filter_map (match_fact p row) (matchable base)) rows)

-- ---- formulas

module _ (base : FactBase) where
  abbrev Known : Type 0
  Known = (f : Formula) × IsSpread (through base f)

  abbrev formula_in : Known → Formula
  formula_in e = e.0

  abbrev step_of : Known → List Row → List Row
  step_of e = through base e.0

  spread_turn : (es : List Known) → IsSpread (in_turn (map (through base) (map formula_in es)))
  spread_turn [] = spread_same
  spread_turn (e ∷ es) =
      spread_then (step_of e) (in_turn (map (through base) (map formula_in es))) e.1 (spread_turn es)

  spread_slots : (o : Term) (pairs : List (Term × Term)) → IsSpread (in_turn (map (matched base) (slots_of o pairs)))
  spread_slots o [] = spread_same
  spread_slots o (pair ∷ pairs) =
      let p = SlotPattern o pair.0 pair.1 in
      spread_then (matched base p) (in_turn (map (matched base) (slots_of o pairs))) (spread_matched base p)
      (spread_slots o pairs)

  abbrev branches : List Known → List Row → List Row
  branches es rows = flat_map (λ (step : List Row → List Row). step rows) (map (through base) (map formula_in es))

  spread_branches : (es : List Known) → IsSpread (branches es)
  spread_branches [] test rows = sym (none rows)
    where
      none : (rows : List Row) → list_any (λ (row : Row). false) rows ≡ false
      none [] = refl
      none (row ∷ rows) = none rows
  spread_branches (e ∷ es) test rows =
      list_any-append test (step_of e rows) (branches es rows)
      ∙ ap₂ (λ a b. a || b) (e.1 test rows) (spread_branches es test rows)
      ∙ sym (any_or (λ row. list_any test (step_of e (row ∷ [])))
      (λ row. list_any test (branches es (row ∷ []))) rows)
      ∙ any_same (λ row. list_any test (step_of e (row ∷ [])) || list_any test (branches es (row ∷ [])))
      (λ row. list_any test (branches (e ∷ es) (row ∷ []))) rows
      (λ row. sym (list_any-append test (step_of e (row ∷ [])) (branches es (row ∷ []))))

  spread_inside : (y : Formula-F Known)
      → IsSpread (through_step base (map-Formula Formula (List Row → List Row) (through base)
      (map-Formula Known Formula formula_in y)))
  spread_inside (AndLayer es) = spread_turn es
  spread_inside (OrLayer es) = spread_branches es
  spread_inside (NotLayer e) = spread_filter (λ row. length (through base e.0 (row ∷ [])) == 0)
  spread_inside (ExistsLayer vs e) = spread_map (without_variables vs) (step_of e) e.1
  spread_inside (EqualLayer a b) = spread_filter_map (equal_row a b)
  spread_inside (MemberLayer o c) = spread_matched base (MemberPattern o c)
  spread_inside (FrameLayer o pairs) = spread_slots o pairs
  spread_inside (AtomLayer p ts) = spread_matched base (AtomPattern p ts)
  spread_inside (HoldsLayer pred ts) = spread_filter (λ row. holds_at pred (values_of row ts))

  spread_layer : (y : Formula-F Known)
      → IsSpread (through base (roll-Formula (map-Formula Known Formula formula_in y)))
  spread_layer y =
      subst IsSpread (sym (fold-roll-Formula (List Row → List Row) (through_step base)
      (map-Formula Known Formula formula_in y)))
      (spread_inside y)

  pub spread_through : (f : Formula) → IsSpread (through base f)
  spread_through =
      ind-Formula (λ f. IsSpread (through base f))
      (λ x y is. subst (λ z. IsSpread (through base (roll-Formula z))) is (spread_layer y))

-- ---- as membership

pub one_by_one : (step : List Row → List Row) → IsSpread step → (rows : List Row) (next : Row)
    → Contains (step rows) next ↔ ((row : Row) × Contains rows row × Contains (step (row ∷ [])) next)
one_by_one step is rows next =
    let given = λ (row : Row). list_any (is_row next) (step (row ∷ [])) in
    let by = row_by (step rows) next given rows (is (is_row next) rows) in (
      λ there. let found = by.0 there in (found.0, found.1, (row_in (step (found.0 ∷ [])) next).0 found.2),
      λ found. by.1 (found.0, found.1, (row_in (step (found.0 ∷ [])) next).1 found.2),
    )
