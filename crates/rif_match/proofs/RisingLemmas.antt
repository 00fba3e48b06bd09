-- Rising lists of variables: those with the same members are equal, and rows bind in rising order.
use Rattle.std.proofs.Common.{◌≡◌, ◌∙◌, ℕ, zero, suc, ◌≤◌, ◌<◌, Bool, true, false, ◌||◌, ◌==◌, List, [], ◌∷◌}
use Rattle.std.proofs.Common.{refl, ap, sym, subst, arith}
use Rattle.std.proofs.lemmas.Bool.Decides.{nat_tests}
use Rattle.rif_values.specs.Bindings.{Row, IsBinding, RisesFrom}
use Rattle.rif_tree.specs.Laws.{AreSame}
use Rattle.rif_tree.specs.Variables.{has_variable}
use Rattle.rif_tree.proofs.CallerLemmas.{or_first}
use Rattle.safe_rules.specs.Numbers.{numbers_below, numbers_from}
use Rattle.rif_builtins.specs.ExtensionLaws.{variables_in}

-- each of the variables is above the one before it, and the first is at least this
abbrev IsRising : ℕ → List ℕ → Type 0
IsRising least [] = Unit {0}
IsRising least (v ∷ vs) = (least ≤ v) × IsRising (suc v) vs

-- ---- rising lists with the same members

at_least_in : (v : ℕ) (vs : List ℕ) (least w : ℕ) (is_it : Bool) → (v == w) ≡ is_it → least ≤ v
    → (has_variable vs w ≡ true → suc v ≤ w) → (is_it || has_variable vs w) ≡ true → least ≤ w
at_least_in v vs least w true is least_is later has =
    let same : v ≡ w = grind (arith, nat_tests) in omega (arith, least_is, same)
at_least_in v vs least w false is least_is later has = let above = later has in omega (arith, least_is, above)

at_least : (vs : List ℕ) (least w : ℕ) → IsRising least vs → has_variable vs w ≡ true → least ≤ w
at_least [] least w rises has = absurd (cc has)
at_least (v ∷ vs) least w rises has =
    at_least_in v vs least w (v == w) refl rises.0 (λ later. at_least vs (suc v) w rises.1 later) has

none_below : (vs : List ℕ) (least w : ℕ) (there : Bool) → has_variable vs w ≡ there → IsRising least vs → w < least
    → has_variable vs w ≡ false
none_below vs least w true is rises below = let up = at_least vs least w rises is in absurd (omega (arith, up, below))
none_below vs least w false is rises below = is

itself : (v : ℕ) (vs : List ℕ) → has_variable (v ∷ vs) v ≡ true
itself v vs = let self : (v == v) ≡ true = grind (arith, nat_tests) in or_first (v == v) (has_variable vs v) self

-- behind equal first members, those with the same members have the same behind them
behind : (v : ℕ) (us vs : List ℕ) (w : ℕ) (is_it : Bool) → (v == w) ≡ is_it → IsRising (suc v) us
    → IsRising (suc v) vs → (is_it || has_variable us w) ≡ (is_it || has_variable vs w)
    → has_variable us w ≡ has_variable vs w
behind v us vs w true is first second same =
    let below : w < suc v = let here : v ≡ w = grind (arith, nat_tests) in omega (arith, here) in
    none_below us (suc v) w (has_variable us w) refl first below
    ∙ sym (none_below vs (suc v) w (has_variable vs w) refl second below)
behind v us vs w false is first second same = same

pub rising_same : (us vs : List ℕ) (least other : ℕ) → IsRising least us → IsRising other vs → AreSame us vs → us ≡ vs
rising_same [] [] least other first second same = refl
rising_same [] (v ∷ vs) least other first second same = absurd (cc (same v ∙ itself v vs))
rising_same (u ∷ us) [] least other first second same = absurd (cc (sym (itself u us) ∙ same u))
rising_same (u ∷ us) (v ∷ vs) least other first second same =
    let over = at_least (v ∷ vs) v u (omega arith, second.1) (sym (same u) ∙ itself u us) in
    let under = at_least (u ∷ us) u v (omega arith, first.1) (same v ∙ itself v vs) in
    let one : v ≡ u = omega (arith, over, under) in
    let rest = subst (λ (w : ℕ). IsRising (suc w) vs) one second.1 in
    let alike : AreSame (u ∷ us) (u ∷ vs) = subst (λ (w : ℕ). AreSame (u ∷ us) (w ∷ vs)) one same in
    ap (λ ws. u ∷ ws) (rising_same us vs (suc u) (suc u) first.1 rest
    (λ w. behind u us vs w (u == w) refl first.1 rest (alike w)))
    ∙ ap (λ w. w ∷ vs) (sym one)

-- ---- rows and numbers

numbers_rise : (n least : ℕ) → IsRising least (numbers_from least n)
numbers_rise zero least = tt
numbers_rise (suc n) least = (omega arith, numbers_rise n (suc least))

rises_behind : (row : Row) (v : ℕ) → RisesFrom v row → IsRising (suc v) (variables_in row)
rises_behind [] v rises = tt
rises_behind (pair ∷ row) v rises =
    let above = rises.0 in (omega (arith, above), rises_behind row pair.0 rises.1)

row_rises : (row : Row) → IsBinding row → IsRising 0 (variables_in row)
row_rises [] in_order = tt
row_rises (pair ∷ row) in_order = (omega arith, rises_behind row pair.0 in_order)

rises_from : (row : Row) (v : ℕ) → IsRising (suc v) (variables_in row) → RisesFrom v row
rises_from [] v rises = tt
rises_from (pair ∷ row) v rises = let above = rises.0 in (omega (arith, above), rises_from row pair.0 rises.1)

binding_of : (row : Row) → IsRising 0 (variables_in row) → IsBinding row
binding_of [] rises = tt
binding_of (pair ∷ row) rises = rises_from row pair.0 rises.1

-- a binding of the numbers below n has them in order
pub in_order_below : (row : Row) (n : ℕ) → IsBinding row → AreSame (variables_in row) (numbers_below n)
    → variables_in row ≡ numbers_below n
in_order_below row n in_order same =
    rising_same (variables_in row) (numbers_below n) 0 0 (row_rises row in_order) (numbers_rise n 0) same

-- and a row that has them in order is a binding
pub binding_below : (row : Row) (n : ℕ) → variables_in row ≡ numbers_below n → IsBinding row
binding_below row n is = binding_of row (subst (IsRising 0) (sym is) (numbers_rise n 0))
