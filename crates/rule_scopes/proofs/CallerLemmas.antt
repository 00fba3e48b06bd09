-- Lemmas for callers: numbers below a bound, and a condition's scope and variables by its members.
use Rattle.std.proofs.Common.{◌≡◌, ℕ, zero, suc, ◌+◌, ◌<◌, ◌≤◌, Bool, true, false, ◌&&◌, ◌||◌, ◌==◌, nat_lt}
use Rattle.std.proofs.Common.{List, [], ◌∷◌, ap, ap₂, ◌∙◌, refl, arith}
use Rattle.std.proofs.lemmas.Bool.Decides.{nat_tests}
use Rattle.rif_tree.specs.Variables.{has_variable, has_all}
use Rattle.rif_tree.proofs.CallerLemmas.{and_first, and_second}
use Rattle.safe_rules.specs.Named.{are_below}
use Rattle.safe_rules.specs.Numbers.{numbers_from, numbers_below}
use Rattle.rule_scopes.proofs.BelowLemmas.{below_one}
pub use Rattle.rule_scopes.proofs.BelowLemmas.{below_more, below_append, below_all, none_above, numbers_are_below}
pub use Rattle.rule_scopes.proofs.FormulaNumberLemmas.{scoped_and, all_and}

among_at : (first count v : ℕ) (is : Bool) → (first == v) ≡ is → first ≤ v → v < first + suc count
    → (suc first ≤ v → v < suc first + count → has_variable (numbers_from (suc first) count) v ≡ true)
    → (is || has_variable (numbers_from (suc first) count) v) ≡ true
among_at first count v true is least most rest = refl
among_at first count v false is least most rest =
    let later : suc first ≤ v = grind (arith, nat_tests, is, least) in rest later (omega (arith, most))

among_numbers : (first count v : ℕ) → first ≤ v → v < first + count → has_variable (numbers_from first count) v ≡ true
among_numbers first zero v least most = let no : ⊥ = omega (arith, least, most) in absurd no
among_numbers first (suc count) v least most =
    among_at first count v (first == v) refl least most (λ later below. among_numbers (suc first) count v later below)

tells_less : (v n : ℕ) → nat_lt v n ≡ true → v < n
tells_less v n is = grind (arith, nat_tests, is)

-- a number below the bound is one of the numbers below it
pub below_is_among : (n v : ℕ) → v < n → has_variable (numbers_below n) v ≡ true
below_is_among n v is = among_numbers 0 n v (omega arith) (omega (arith, is))

same_bound : (n : ℕ) → n ≡ 0 + n
same_bound n = omega arith

-- and those are below it
pub among_is_below : (n v : ℕ) → has_variable (numbers_below n) v ≡ true → v < n
among_is_below n v has =
    let below : are_below n (numbers_below n) ≡ true =
    ap (λ m. are_below m (numbers_below n)) (same_bound n) ∙ numbers_are_below 0 n in
    tells_less v n (below_one n v (numbers_below n) below has)

-- so numbers are below a bound exactly where they are among those below it
pub all_among_below : (n : ℕ) (vs : List ℕ) → are_below n vs ≡ true → has_all (numbers_below n) vs ≡ true
all_among_below n [] below = refl
all_among_below n (v ∷ vs) below =
    ap₂ (λ a b. a && b)
    (below_is_among n v (tells_less v n (and_first (nat_lt v n) (are_below n vs) below)))
    (all_among_below n vs (and_second (nat_lt v n) (are_below n vs) below))
