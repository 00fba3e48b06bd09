-- Numbers below a bound, and the numbers that a list of declarations gets.
use Rattle.std.proofs.Common.{◌≡◌, ℕ, zero, suc, ◌+◌, ◌≤◌, Bool, true, false, not, ◌&&◌, ◌||◌, ◌==◌, nat_lt}
use Rattle.std.proofs.Common.{List, [], ◌∷◌, ◌++◌, length, ap, ap₂, ◌∙◌, sym, refl, subst, arith}
use Rattle.std.proofs.lemmas.Bool.Decides.{nat_tests}
use Rattle.std.proofs.lemmas.List.Folds.{list_all-append}
use Rattle.rif_tree.specs.Scoped.{has_none}
use Rattle.rif_tree.specs.Variables.{has_variable, has_all}
use Rattle.rif_tree.proofs.CallerLemmas.{and_first, and_second}
use Rattle.safe_rules.specs.Named.{are_below}
use Rattle.rule_scopes.specs.Numbering.{namings_from, numbers_of}
use Rattle.safe_rules.specs.Numbers.{numbers_from}
use Rattle.rule_scopes.proofs.TermNumberLemmas.{vars_of}

lower : (u n m : ℕ) → nat_lt u n ≡ true → n ≤ m → nat_lt u m ≡ true
lower u n m is up = grind (arith, nat_tests, is, up)

pub below_more : (n m : ℕ) (vs : List ℕ) → n ≤ m → are_below n vs ≡ true → are_below m vs ≡ true
below_more n m [] up is = refl
below_more n m (v ∷ vs) up is =
    ap₂ (λ a b. a && b) (lower v n m (and_first (nat_lt v n) (are_below n vs) is) up)
    (below_more n m vs up (and_second (nat_lt v n) (are_below n vs) is))

pub below_append : (n : ℕ) (us vs : List ℕ) → are_below n us ≡ true → are_below n vs ≡ true
    → are_below n (us ++ vs) ≡ true
below_append n us vs first second =
    list_all-append (λ v. nat_lt v n) us vs ∙ ap₂ (λ a b. a && b) first second

below_at : (n u v : ℕ) (vs : List ℕ) (is : Bool) → (v == u) ≡ is → nat_lt v n ≡ true
    → (has_variable vs u ≡ true → nat_lt u n ≡ true) → (is || has_variable vs u) ≡ true → nat_lt u n ≡ true
below_at n u v vs true is lt rest has =
    let same : v ≡ u = grind (arith, nat_tests, is) in subst (λ w. nat_lt w n ≡ true) same lt
below_at n u v vs false is lt rest has = rest has

-- what is among numbers below a bound is below it
pub below_one : (n u : ℕ) (vs : List ℕ) → are_below n vs ≡ true → has_variable vs u ≡ true → nat_lt u n ≡ true
below_one n u [] below has = absurd (cc has)
below_one n u (v ∷ vs) below has =
    below_at n u v vs (v == u) refl (and_first (nat_lt v n) (are_below n vs) below)
    (below_one n u vs (and_second (nat_lt v n) (are_below n vs) below)) has

pub below_all : (n : ℕ) (vs us : List ℕ) → are_below n vs ≡ true → has_all vs us ≡ true → are_below n us ≡ true
below_all n vs [] below all = refl
below_all n vs (u ∷ us) below all =
    ap₂ (λ a b. a && b) (below_one n u vs below (and_first (has_variable vs u) (has_all vs us) all))
    (below_all n vs us below (and_second (has_variable vs u) (has_all vs us) all))

apart : (v n k : ℕ) → nat_lt v n ≡ true → n ≤ k → (v == k) ≡ false
apart v n k is up = grind (arith, nat_tests, is, up)

-- a number from the bound on is none of them
pub none_above : (n k : ℕ) (vs : List ℕ) → are_below n vs ≡ true → n ≤ k → has_variable vs k ≡ false
none_above n k [] below up = refl
none_above n k (v ∷ vs) below up =
    ap₂ (λ a b. a || b) (apart v n k (and_first (nat_lt v n) (are_below n vs) below) up)
    (none_above n k vs (and_second (nat_lt v n) (are_below n vs) below) up)

-- ---- the numbers of a list of declarations

pub namings_vars : (next : ℕ) (vs : List ℕ) → vars_of (namings_from next vs) ≡ vs
namings_vars next [] = refl
namings_vars next (v ∷ vs) = ap (λ us. v ∷ us) (namings_vars (suc next) vs)

pub namings_numbers : (next : ℕ) (vs : List ℕ) → numbers_of (namings_from next vs) ≡ numbers_from next (length vs)
namings_numbers next [] = refl
namings_numbers next (v ∷ vs) = ap (λ us. next ∷ us) (namings_numbers (suc next) vs)

first_below : (next count : ℕ) → nat_lt next (next + suc count) ≡ true
first_below next count = grind (arith, nat_tests)

pub numbers_are_below : (next count : ℕ) → are_below (next + count) (numbers_from next count) ≡ true
numbers_are_below next zero = refl
numbers_are_below next (suc count) =
    let same : suc next + count ≡ next + suc count = omega arith in
    ap₂ (λ a b. a && b) (first_below next count)
    (ap (λ n. are_below n (numbers_from (suc next) count)) (sym same) ∙ numbers_are_below (suc next) count)

-- they are new where all numbers before are below them
pub numbers_are_new : (n next count : ℕ) (held : List ℕ) → are_below n held ≡ true → n ≤ next
    → has_none held (numbers_from next count) ≡ true
numbers_are_new n next zero held below up = refl
numbers_are_new n next (suc count) held below up =
    ap₂ (λ a b. not a && b) (none_above n next held below up)
    (numbers_are_new n (suc next) count held below (omega (arith, up)))

pub numbers_add : (next first second : ℕ)
    → numbers_from next (first + second) ≡ numbers_from next first ++ numbers_from (next + first) second
numbers_add next zero second =
    let count : zero + second ≡ second = omega arith in
    let behind : next + zero ≡ next = omega arith in
    ap (numbers_from next) count ∙ sym (ap (λ n. numbers_from n second) behind)
numbers_add next (suc first) second =
    let count : suc first + second ≡ suc (first + second) = omega arith in
    let behind : suc next + first ≡ next + suc first = omega arith in
    ap (numbers_from next) count
    ∙ ap (λ us. next ∷ us)
    (numbers_add (suc next) first second
    ∙ ap (λ n. numbers_from (suc next) first ++ numbers_from n second) behind)
