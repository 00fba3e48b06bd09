-- An integer that is read of a text is one of documents, and its own text stands for it.
use Rattle.std.proofs.Common.{◌≡◌, ap, refl, ℕ, ◌^◌, ◌<◌, ◌==◌, Bool, true, false, cond, ℤ, pos, negsuc, neg_ℤ, List}
use Rattle.std.proofs.Common.{◌∷◌, get_or, Some, None, decimal, arith, suc, ◌≢◌}
use Rattle.std.specs.Fmt.{signed_decimal}
use Rattle.std.specs.Str.Parse.{digits_value, signed_digits_value}
use Rattle.std.proofs.lemmas.Bool.Decides.{nat_tests}
use Rattle.std.proofs.lemmas.Fmt.{decimal_is_IsNumeral}
use Rattle.std.proofs.lemmas.Str.Parse.{numerals_by_value, tells_digits, not_in_digits}
use lib.Signed.{mag}
use Rattle.prd_leaves.specs.Literals.{in_range, integer_of}
use Rattle.prd_grammar.specs.Values.{integer_or}
use Rattle.prd_canonical.specs.Writable.{IsWritableInt}

-- digits without a sign
unsigned_value : (ds : List ℕ) (n : ℕ) → (get_or ds 0 0 == 45) ≡ false → (get_or ds 0 0 == 43) ≡ false →
    digits_value 10 ds ≡ n → signed_digits_value 10 ds ≡ pos n
unsigned_value ds n minus plus is = rw (minus, plus) (ap pos is)

apart : (b c : ℕ) → b ≢ c → (b == c) ≡ false
apart b c other = grind (arith, nat_tests)

decimal_value : (n : ℕ) → n < 2 ^ 63 → signed_digits_value 10 (decimal n) ≡ pos n
decimal_value n small =
    let numeral = decimal_is_IsNumeral n (omega arith) in
    let own = numerals_by_value _ tells_digits in
    let first = λ (c : ℕ) (outside : (c < 48)).
    not_in_digits own (decimal n) c numeral.0.1 (λ inside. omega (arith, inside.0)) 0 numeral.0.0 in
    unsigned_value (decimal n) n (apart _ 45 (first 45 (omega arith))) (apart _ 43 (first 43 (omega arith))) numeral.1

negative_value : (n : ℕ) → n < 2 ^ 63 → signed_digits_value 10 (45 ∷ decimal (suc n)) ≡ negsuc n
negative_value n small = ap (λ (m : ℕ). neg_ℤ (pos m)) (decimal_is_IsNumeral (suc n) (omega arith)).1

small_of_range : (z : ℤ) → in_range z ≡ true → mag z < 2 ^ 63
small_of_range (pos n) range = let low : n < 2 ^ 63 = grind (arith, nat_tests) in omega arith
small_of_range (negsuc n) range = let low : n < 2 ^ 63 = grind (arith, nat_tests) in omega arith

value_of_text : (z : ℤ) → mag z < 2 ^ 63 → signed_digits_value 10 (signed_decimal z) ≡ z
value_of_text (pos n) small = decimal_value n (omega arith)
value_of_text (negsuc n) small = negative_value n (omega arith)

found : (y z : ℤ) → y ≡ z → in_range z ≡ true → cond (in_range y) (Some y) None ≡ Some z
found y z is range = rw (is, range) refl

writable_int : (z : ℤ) → in_range z ≡ true → IsWritableInt z
writable_int z range =
    let small = small_of_range z range in
    record {
      small = omega (arith, small);
      read_back = found (signed_digits_value 10 (signed_decimal z)) z (value_of_text z small) range;
    }

pub writable_zero : IsWritableInt (pos 0)
writable_zero = writable_int (pos 0) refl

writable_by : (test : Bool) (z : ℤ) → in_range z ≡ test →
    IsWritableInt (integer_or (pos 0) (cond test (Some z) None))
writable_by true z range = writable_int z range
writable_by false z range = writable_zero

pub writable_integer : (text : List ℕ) → IsWritableInt (integer_or (pos 0) (integer_of text))
writable_integer text =
    writable_by (in_range (signed_digits_value 10 text)) (signed_digits_value 10 text) refl
