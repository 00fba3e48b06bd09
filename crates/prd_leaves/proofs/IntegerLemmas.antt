-- What is parsed of digits with a sign: their integer, unless it is out of range.
use Rattle.std.proofs.Common.{◌≡◌, ap, refl, ℕ, ◌^◌, ◌<◌, ◌≤◌, nat_le, Bool, true, false, cond, ◌&&◌, ℤ, pos, negsuc}
use Rattle.std.proofs.Common.{List, [], ◌∷◌, length, Some, None, arith}
use Rattle.std.specs.Prelude.{Err, FitsSigned}
use Rattle.std.specs.Int.{w64}
use Rattle.std.specs.List.{list_all}
use Rattle.std.specs.Char.{digit_value}
use Rattle.std.specs.Str.Parse.{AllDigits, IsNumeral, ParsesSigned, signed_digits_value, without_leading_sign}
use Rattle.std.proofs.lemmas.Bool.Decides.{nat_tests}
use Rattle.std.proofs.lemmas.Int.{ints}
use Rattle.std.proofs.lemmas.Str.{digit_value_digit}
use Rattle.rif_lex.specs.Characters.{is_between}
use Rattle.prd_leaves.specs.Literals.{in_range, integer_of, is_integer_text}

both : (s t : Bool) → s && t ≡ true → (s ≡ true) × (t ≡ true)
both true t e = (refl, e)
both false t e = cc

digit_fits : (b : ℕ) → is_between 48 57 b ≡ true → digit_value b < 10
digit_fits b test =
    let parts = both (nat_le 48 b) (nat_le b 57) test in
    let low : 48 ≤ b = grind (arith, nat_tests) in
    let high : b ≤ 57 = grind (arith, nat_tests) in
    omega (arith, digit_value_digit b (low, high))

all_digits : (bs : List ℕ) → list_all (is_between 48 57) bs ≡ true → AllDigits 10 bs
all_digits [] test = tt
all_digits (b ∷ bs) test =
    let parts = both (is_between 48 57 b) (list_all (is_between 48 57) bs) test in
    (digit_fits b parts.0, all_digits bs parts.1)

numeral : (text : List ℕ) → is_integer_text text ≡ true → IsNumeral 10 (without_leading_sign text)
numeral text test =
    let digits = without_leading_sign text in
    let parts = both (nat_le 1 (length digits)) (list_all (is_between 48 57) digits) test in
    let some : 0 < length digits = grind (arith, nat_tests) in
    (some, all_digits digits parts.1)

range_of_fits : (z : ℤ) → FitsSigned w64 z → in_range z ≡ true
range_of_fits (pos n) fits = grind (arith, nat_tests)
range_of_fits (negsuc n) fits = grind (arith, nat_tests)

fits_of_range : (z : ℤ) → in_range z ≡ true → FitsSigned w64 z
fits_of_range (pos n) test = let low : n < 2 ^ 63 = grind (arith, nat_tests) in omega (arith, ints)
fits_of_range (negsuc n) test = let low : n < 2 ^ 63 = grind (arith, nat_tests) in omega (arith, ints)

pub integer_found : (text : List ℕ) (value : ℤ) → FitsSigned w64 (signed_digits_value 10 text) →
    value ≡ signed_digits_value 10 text → Some value ≡ integer_of text
integer_found text value fits is = rw (range_of_fits (signed_digits_value 10 text) fits) (ap Some is)

pub integer_missed : {E : Type 0} (text : List ℕ) (e : E) → is_integer_text text ≡ true →
    ParsesSigned w64 10 text (Err e) → None ≡ integer_of text
integer_missed text e digits parses =
    elim (in_range (signed_digits_value 10 text)) as (λ v. in_range (signed_digits_value 10 text) ≡ v →
    None ≡ cond v (Some (signed_digits_value 10 text)) None) [
      | true ↦ λ range. absurd (parses (numeral text digits, fits_of_range (signed_digits_value 10 text) range))
      | false ↦ λ _. refl
    ] refl
