-- Division and comparison: what the built-ins of integers and booleans promise.
use Rattle.std.proofs.Common.{◌≡◌, ◌≢◌, ℕ, zero, suc, ◌<◌, ◌≤◌, ◌%◌, ℤ, pos, negsuc, neg_ℤ, ◌≤ℤ◌, true}
use Rattle.std.proofs.Common.{Bool, false, not, [], ◌∷◌, Option, None, Some, refl, sym, ap, subst, ◌∙◌, arith, cond}
use Rattle.std.proofs.Common.{div-add-mod'}
use Rattle.std.proofs.lemmas.Bool.Decides.{nat_tests, Decides-int_eq}
use Rattle.std.proofs.lemmas.Int.{ints, quot-rem, rem_below}
use Rattle.std.specs.Int.RustNames.{int_div, int_rem, int_lt, int_le, unsigned_abs}
use Rattle.std.specs.Option.{option_map, option_and_then}
use Rattle.std.specs.Ordering.{int_eq, bool_cmp, is_lt, is_gt}
use Rattle.rif_values.specs.declared.constant.Const.{Const}
use Rattle.rif_values.specs.declared.constant.Const.TheVariants.{Int, Bool as BoolConst, Str, Iri, Local, Fresh}
use Rattle.rif_tree.specs.declared.builtin.Func.TheVariants.{Not}
use Rattle.rif_builtins.specs.Builtins.{func_value, is_integer, integer_value, quotient_value, remainder_value}
use Rattle.rif_builtins.specs.Builtins.{as_integer, as_boolean, two_of}
use Rattle.rif_builtins.specs.BuiltinLaws.{IsDivision, AreDivisionsExact, AreComparisonsOpposite, IsNotUndone}

above_zero : (b : ℤ) → b ≢ pos 0 → 0 < unsigned_abs b
above_zero (pos zero) other = absurd (other refl)
above_zero (pos (suc n)) other = omega arith
above_zero (negsuc n) other = omega arith

not_zero : (b : ℤ) → b ≢ pos 0 → int_eq b (pos 0) ≡ false
not_zero b other =
    elim (int_eq b (pos 0)) as (λ v. int_eq b (pos 0) ≡ v → v ≡ false) [
      | true ↦ λ same. absurd (other ((Decides-int_eq b (pos 0)).0 same))
      | false ↦ λ _. refl
    ] refl

mod_within : (a n : ℕ) → a % n ≤ a
mod_within a n = let parts = div-add-mod' a n in omega (arith, parts)

not_above : (n : ℕ) → pos 0 ≤ℤ negsuc n → ⊥
not_above n above = omega (arith, ints)

negative : (n : ℕ) → neg_ℤ (pos n) ≤ℤ pos 0
negative zero = omega (arith, ints)
negative (suc n) = omega (arith, ints)

sign_above : (a b : ℤ) → pos 0 ≤ℤ a → pos 0 ≤ℤ int_rem a b
sign_above (pos n) b above = omega (arith, ints)
sign_above (negsuc n) b above = absurd (not_above n above)

sign_below : (a b : ℤ) → a ≤ℤ pos 0 → int_rem a b ≤ℤ pos 0
sign_below (pos n) b below = let left = mod_within n (unsigned_abs b) in omega (arith, ints)
sign_below (negsuc n) b below = negative (suc n % unsigned_abs b)

-- a remainder stands between zero and the dividend
within_above : (n : ℕ) (b : ℤ) → int_rem (pos n) b ≤ℤ pos n
within_above n b = let left = mod_within n (unsigned_abs b) in omega (arith, ints)

within_negative : (n m : ℕ) → m ≤ suc n → negsuc n ≤ℤ neg_ℤ (pos m)
within_negative n zero below = omega (arith, ints)
within_negative n (suc m) below = omega (arith, ints)

within_below : (n : ℕ) (b : ℤ) → negsuc n ≤ℤ int_rem (negsuc n) b
within_below n b = within_negative n (suc n % unsigned_abs b) (mod_within (suc n) (unsigned_abs b))

between_above : (a r : ℤ) → is_integer a ≡ true → pos 0 ≤ℤ r → r ≤ℤ a → is_integer r ≡ true
between_above a r in_range low high = grind (arith, ints, nat_tests)

between_below : (a r : ℤ) → is_integer a ≡ true → r ≤ℤ pos 0 → a ≤ℤ r → is_integer r ≡ true
between_below a r in_range high low = grind (arith, ints, nat_tests)

remainder_in_range : (a b : ℤ) → is_integer a ≡ true → is_integer (int_rem a b) ≡ true
remainder_in_range (pos n) b in_range =
    between_above (pos n) (int_rem (pos n) b) in_range (sign_above (pos n) b (omega (arith, ints))) (within_above n b)
remainder_in_range (negsuc n) b in_range =
    between_below (negsuc n) (int_rem (negsuc n) b) in_range (negative (suc n % unsigned_abs b)) (within_below n b)

is_division : (a b : ℤ) → b ≢ pos 0 → IsDivision a b (int_div a b) (int_rem a b)
is_division a b other = record {
  exact = sym (quot-rem a b);
  below = rem_below a b (above_zero b other);
  above_zero = sign_above a b;
  below_zero = sign_below a b;
}

quotient_there : (a b : ℤ) → b ≢ pos 0 → quotient_value a b ≡ integer_value (int_div a b)
quotient_there a b other = ap (λ v. cond v None (integer_value (int_div a b))) (not_zero b other)

remainder_there : (a b : ℤ) → b ≢ pos 0 → remainder_value a b ≡ integer_value (int_rem a b)
remainder_there a b other = ap (λ v. cond v None (integer_value (int_rem a b))) (not_zero b other)

pub divisions_exact : AreDivisionsExact
divisions_exact = record {
  values = λ a b other. (
    int_div a b,
    int_rem a b,
    is_division a b other,
    quotient_there a b other,
    remainder_there a b other,
  );
  by_zero = λ a. (refl, refl);
  remainders = λ a b in_range other. (
    int_rem a b,
    remainder_there a b other
        ∙ ap (λ v. cond v (Some (Int (int_rem a b))) None) (remainder_in_range a b in_range),
  );
}

-- the opposite of a test, and a test turned round
opposite : {V : Type 0} (test other : V → V → Bool) → ((v w : V) → test v w ≡ not (other v w)) → (o : Option (V × V))
    → option_map (λ (two : V × V). test two.0 two.1) o
    ≡ option_map not (option_map (λ (two : V × V). other two.0 two.1) o)
opposite test other is None = refl
opposite test other is (Some two) = ap Some (is two.0 two.1)

turned : {V : Type 0} (test other : V → V → Bool) → ((v w : V) → test v w ≡ other w v) → (o p : Option V)
    → option_map (λ (two : V × V). test two.0 two.1) (option_and_then (λ v. option_map (λ w. (v, w)) p) o)
    ≡ option_map (λ (two : V × V). other two.0 two.1) (option_and_then (λ v. option_map (λ w. (v, w)) o) p)
turned test other is None None = refl
turned test other is None (Some w) = refl
turned test other is (Some v) None = refl
turned test other is (Some v) (Some w) = ap Some (is v w)

not_less : (a b : ℤ) → int_le b a ≡ not (int_lt a b)
not_less a b = grind (arith, ints)

turned_booleans : (a b : Bool) → is_gt (bool_cmp a b) ≡ is_lt (bool_cmp b a)
turned_booleans false false = refl
turned_booleans false true = refl
turned_booleans true false = refl
turned_booleans true true = refl

pub comparisons_opposite : AreComparisonsOpposite
comparisons_opposite = record {
  equal = λ cs. opposite (λ a b. not (int_eq a b)) int_eq (λ _ _. refl) (two_of as_integer cs);
  less = λ cs. opposite (λ a b. int_le b a) int_lt not_less (two_of as_integer cs);
  greater = λ cs. opposite (λ a b. int_le a b) (λ a b. int_lt b a) (λ a b. not_less b a) (two_of as_integer cs);
  turned = λ c d. turned (λ a b. int_lt b a) int_lt (λ _ _. refl) (as_integer c) (as_integer d);
  turned_or_equal = λ c d. turned (λ a b. int_le b a) int_le (λ _ _. refl) (as_integer c) (as_integer d);
  turned_booleans = λ c d. turned (λ a b. is_gt (bool_cmp a b)) (λ a b. is_lt (bool_cmp a b)) turned_booleans
      (as_boolean c) (as_boolean d);
}

-- `not` of what `not` gives
undone : (b : Bool) (d : Const) → BoolConst (not b) ≡ d → func_value Not (d ∷ []) ≡ Some (BoolConst b)
undone true d is = subst (λ (c : Const). func_value Not (c ∷ []) ≡ Some (BoolConst true)) is refl
undone false d is = subst (λ (c : Const). func_value Not (c ∷ []) ≡ Some (BoolConst false)) is refl

some_same : {X : Type 0} (x y : X) → Some x ≡ Some y → x ≡ y
some_same x y is = cc

pub not_undone : IsNotUndone
not_undone (Int z) d is = cc
not_undone (BoolConst b) d is = undone b d (some_same (BoolConst (not b)) d is)
not_undone (Str t) d is = cc
not_undone (Iri t) d is = cc
not_undone (Local t) d is = cc
not_undone (Fresh k) d is = cc
