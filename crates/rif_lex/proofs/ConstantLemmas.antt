-- Constants as they are written have the forms of tokens.
use Rattle.std.proofs.Common.{◌≡◌, ℕ, ℤ, pos, negsuc, ◌+◌, ◌/◌, ◌%◌, ◌^◌, ◌≤◌, ◌<◌, ◌==◌, Bool, true, false, List, []}
use Rattle.std.proofs.Common.{◌∷◌, ◌++◌, length, suc, zero, refl, ap, sym, arith, inl, inr, decimal}
use lib.Signed.{mag}
use Rattle.std.proofs.lemmas.Fmt.{decimal_by_steps_wide, decimal_digit}
use Rattle.std.specs.Fmt.{signed_decimal}
use Rattle.std.specs.List.{flat_map, AllByRecursion}
use Rattle.rif_values.specs.Writing.{escaped, truth_text, const_text}
use Rattle.rif_values.specs.declared.constant.Const.TheVariants.{Str as StrConst, Iri as IriConst}
use Rattle.rif_values.specs.declared.constant.Const.TheVariants.{Local as LocalConst}
use Rattle.rif_lex.specs.declared.class.Class.TheVariants.{Digit}
use Rattle.rif_lex.specs.declared.token.Kind.TheVariants.{Word, Local, Int, Str, Iri}
use Rattle.rif_lex.specs.declared.piece.Piece.TheVariants.{Lexeme}
use Rattle.rif_lex.specs.Characters.{class_at, is_digit, is_first_digit, is_inside_iri}
use Rattle.rif_lex.specs.Pieces.{piece_at}
use Rattle.rif_lex.specs.Forms.{AreNames, IsNumber, Part, plain, escape, part_text, is_part, IsString, HasForm}
use Rattle.rif_lex.specs.Constants.{ConstantsAreTokens}
use Rattle.rif_lex.proofs.FollowLemmas.{forms_are_tokens}

-- Integers in decimal.

digit_class : (d : ℕ) → 0 < d → d < 10 → class_at (48 + d) ≡ Digit
digit_class zero low high = absurd (omega arith)
digit_class (suc zero) low high = refl
digit_class (suc (suc zero)) low high = refl
digit_class (suc (suc (suc zero))) low high = refl
digit_class (suc (suc (suc (suc zero)))) low high = refl
digit_class (suc (suc (suc (suc (suc zero))))) low high = refl
digit_class (suc (suc (suc (suc (suc (suc zero)))))) low high = refl
digit_class (suc (suc (suc (suc (suc (suc (suc zero))))))) low high = refl
digit_class (suc (suc (suc (suc (suc (suc (suc (suc zero)))))))) low high = refl
digit_class (suc (suc (suc (suc (suc (suc (suc (suc (suc zero))))))))) low high = refl
digit_class (suc (suc (suc (suc (suc (suc (suc (suc (suc (suc d)))))))))) low high = absurd (omega arith)

digit_is : (d : ℕ) → d < 10 → is_digit (class_at (48 + d)) ≡ true
digit_is zero high = refl
digit_is (suc d) high = ap is_digit (digit_class (suc d) (omega arith) high)

digits_more : (ds : List ℕ) (d : ℕ) → AllByRecursion (λ x. is_digit (class_at x) ≡ true) ds →
    is_digit (class_at d) ≡ true → AllByRecursion (λ x. is_digit (class_at x) ≡ true) (ds ++ d ∷ [])
digits_more [] d all is = (is, tt)
digits_more (c ∷ cs) d all is = (all.0, digits_more cs d all.1 is)

one_digit : (n : ℕ) → n < 10 → 0 < n → IsNumber ((48 + n) ∷ [])
one_digit n high low = record {
  first = 48 + n;
  more = [];
  is = refl;
  first_digit = ap is_first_digit (digit_class n low high);
  digits = tt;
}

more_digits : (n : ℕ) (ds : List ℕ) → 10 ≤ n → (0 < n / 10 → IsNumber ds) → 0 < n →
    IsNumber (ds ++ ((48 + n % 10) ∷ []))
more_digits n ds high before low =
    let front = before (omega arith) in
    let last = 48 + n % 10 in
    record {
      first = front.first;
      more = front.more ++ last ∷ [];
      is = ap (λ (x : List ℕ). x ++ last ∷ []) front.is;
      first_digit = front.first_digit;
      digits = digits_more front.more last front.digits (digit_is (n % 10) (omega arith));
    }

number_form : (n : ℕ) → 0 < n → n < 10 ^ 64 → IsNumber (decimal n)
number_form n low high = decimal_by_steps_wide (λ m ds. 0 < m → IsNumber ds) one_digit more_digits n high low

integer_form : (z : ℤ) → mag z < 2 ^ 127 → HasForm Int (signed_decimal z) []
integer_form (pos zero) high = inl (decimal_digit 0 (omega arith))
integer_form (pos (suc n)) high = inr (inl (number_form (suc n) (omega arith) (omega arith)))
integer_form (negsuc n) high = inr (inr (decimal (suc n), refl, number_form (suc n) (omega arith) (omega arith)))

-- Strings in quotes.

-- how a byte stands in a string
record IsPartOf (b : ℕ) : Type 0 where
  part : Part
  text : part_text part ≡ escaped b
  fits : is_part part ≡ true

part_by : (b : ℕ) (quote backslash feed tab return : Bool) → (b == 34) ≡ quote → (b == 92) ≡ backslash →
    (b == 10) ≡ feed → (b == 9) ≡ tab → (b == 13) ≡ return → IsPartOf b
part_by b true k f t r d e g h i = record { part = escape 34; text = rw d refl; fits = refl }
part_by b false true f t r d e g h i = record { part = escape 92; text = rw (d, e) refl; fits = refl }
part_by b false false true t r d e g h i = record { part = escape 110; text = rw (d, e, g) refl; fits = refl }
part_by b false false false true r d e g h i = record { part = escape 116; text = rw (d, e, g, h) refl; fits = refl }
part_by b false false false false true d e g h i =
    record { part = escape 114; text = rw (d, e, g, h, i) refl; fits = refl }
part_by b false false false false false d e g h i =
    record { part = plain b; text = rw (d, e, g, h, i) refl; fits = rw (d, g, e) refl }

part_of : (b : ℕ) → IsPartOf b
part_of b = part_by b (b == 34) (b == 92) (b == 10) (b == 9) (b == 13) refl refl refl refl refl

record HasParts (t : List ℕ) : Type 0 where
  parts : List Part
  text : flat_map part_text parts ≡ flat_map escaped t
  fit : AllByRecursion (λ p. is_part p ≡ true) parts

parts_of : (t : List ℕ) → HasParts t
parts_of [] = record { parts = []; text = refl; fit = tt }
parts_of (b ∷ bs) =
    let first = part_of b in
    let more = parts_of bs in
    let one = first.text in
    let rest = more.text in
    record { parts = first.part ∷ more.parts; text = rw (one, rest) refl; fit = (first.fits, more.fit) }

string_form : (t : List ℕ) → IsString (const_text (StrConst t))
string_form t = let all = parts_of t in record {
  parts = all.parts;
  is = ap (λ (x : List ℕ). 34 ∷ (x ++ 34 ∷ [])) (sym all.text);
  fit = all.fit;
}

iri_form : (t : List ℕ) → AllByRecursion (λ b. is_inside_iri b ≡ true) t → HasForm Iri (const_text (IriConst t)) []
iri_form t fit = record { inside = t; is = refl; fit = fit }

name_form : (first : ℕ) (more : List ℕ) → AreNames (first ∷ more) [] →
    HasForm Local (const_text (LocalConst (first ∷ more))) []
name_form first more names = record { first = first; more = more; is = refl; names = names }

truth_token : (b : Bool) → piece_at (truth_text b) ≡ Lexeme Word (length (truth_text b))
truth_token true = refl
truth_token false = refl

pub constants_are_tokens : ConstantsAreTokens
constants_are_tokens = record {
  integers = λ z high. (forms_are_tokens Int (signed_decimal z)).1 (integer_form z high);
  truths = truth_token;
  strings = λ t. (forms_are_tokens Str (const_text (StrConst t))).1 (string_form t);
  iris = λ t fit. (forms_are_tokens Iri (const_text (IriConst t))).1 (iri_form t fit);
  names = λ first more names.
      (forms_are_tokens Local (const_text (LocalConst (first ∷ more)))).1 (name_form first more names);
}
