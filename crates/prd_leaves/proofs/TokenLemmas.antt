-- What the text of a token is, by its form: digits, and parts that are UTF-8.
use Rattle.std.proofs.Common.{◌≡◌, ◌⊎◌, inl, inr, ◌∙◌, sym, subst, ap, refl, ℕ, ◌+◌, ◌-◌, ◌<◌, ◌==◌, ◌&&◌, nat_le}
use Rattle.std.proofs.Common.{Bool, true, false, cond, suc, List, [], ◌∷◌, ◌++◌, length, take, drop, length-append}
use Rattle.std.proofs.Common.{append_assoc, arith, IsUtf8}
use Rattle.std.proofs.lemmas.Bool.{eqb-true}
use Rattle.std.proofs.lemmas.Bool.Decides.{nat_tests}
use Rattle.std.proofs.lemmas.List.{take_at, drop_at, take_rest, drop-drop}
use Rattle.std.proofs.lemmas.Str.{IsUtf8-nil}
use Rattle.std.specs.List.{flat_map, list_all, AllByRecursion}
use Rattle.rif_lex.specs.declared.class.Class.{Class}
use Rattle.rif_lex.specs.declared.class.Class.TheVariants.{White, Letter, Zero, Digit, Underscore, Minus, Question}
use Rattle.rif_lex.specs.declared.class.Class.TheVariants.{Quote, Less, Open, Close, OpenSquare, CloseSquare, Equal}
use Rattle.rif_lex.specs.declared.class.Class.TheVariants.{Hash, Caret, Other}
use Rattle.rif_lex.specs.declared.token.Kind.{Kind}
use Rattle.rif_lex.specs.declared.token.Kind.TheVariants.{Local, Var, Int, Str, Iri}
use Rattle.rif_lex.specs.Characters.{begins_name, class_at, is_between, is_digit, is_first_digit}
use Rattle.rif_lex.specs.Forms.{HasForm, IsNumber, IsNamed, IsString, IsIri, part_text}
use Rattle.rif_lex.specs.Spelling.{Written, IsToken}
use Rattle.rif_lex.proofs.CallerLemmas.{differs, forms_are_tokens, cut_utf8}
use Rattle.prd_leaves.specs.Literals.{is_integer_text}
use Rattle.prd_leaves.specs.Leaves.{before_colon, inner}

-- the digits of the classes that have some
DigitOf : Class → ℕ → Type 0
DigitOf Zero b = is_between 48 57 b ≡ true
DigitOf Digit b = is_between 48 57 b ≡ true
DigitOf _ b = Unit {0}

record HasDigit (c : Class) (b : ℕ) : Type 0 where
  digit : DigitOf c b

either_of : (b : ℕ) (test : Bool) (x y : Class) → (test ≡ true → DigitOf x b) → HasDigit y b → HasDigit
    (cond test x y) b
either_of b true x y first second = record { digit = first refl }
either_of b false x y first second = second

zero_digit : (b : ℕ) → (b == 48) ≡ true → is_between 48 57 b ≡ true
zero_digit b is = subst (λ (d : ℕ). is_between 48 57 d ≡ true) (sym (eqb-true b 48 is)) refl

later_digit : (b : ℕ) → is_between 49 57 b ≡ true → is_between 48 57 b ≡ true
later_digit b is = grind (arith, nat_tests)

has_digit : (b : ℕ) → HasDigit (class_at b) b
unfolding DigitOf
has_digit b =
    either_of b _ Letter _ (λ _. tt)
    (either_of b _ White _ (λ _. tt) (either_of b _ Zero _ (zero_digit b) (either_of b _ Digit _ (later_digit b)
    (either_of b _ Underscore _ (λ _. tt)
    (either_of b _ Minus _ (λ _. tt) (either_of b _ Question _ (λ _. tt)
    (either_of b _ Quote _ (λ _. tt) (either_of b _ Less _ (λ _. tt) (either_of b _ Open _ (λ _. tt)
    (either_of b _ Close _ (λ _. tt)
    (either_of b _ OpenSquare _ (λ _. tt) (either_of b _ CloseSquare _ (λ _. tt)
    (either_of b _ Equal _ (λ _. tt)
    (either_of b _ Hash _ (λ _. tt)
    (either_of b _ Caret Other (λ _. tt) (record { digit = tt }))))))))))))))))

digit_of : (c : Class) (b : ℕ) → is_digit c ≡ true → DigitOf c b → is_between 48 57 b ≡ true
unfolding DigitOf
digit_of Zero b is digit = digit
digit_of Digit b is digit = digit
digit_of c b is digit = cc

digit_byte : (b : ℕ) → is_digit (class_at b) ≡ true → is_between 48 57 b ≡ true
digit_byte b is = digit_of (class_at b) b is (has_digit b).digit

first_digit : (c : Class) → is_first_digit c ≡ true → is_digit c ≡ true
first_digit Digit is = refl
first_digit c is = cc

all_digits : (bs : List ℕ) → AllByRecursion (λ d. is_digit (class_at d) ≡ true) bs → list_all (is_between 48 57) bs
    ≡ true
all_digits [] all = refl
all_digits (b ∷ bs) all = rw (digit_byte b all.0) (all_digits bs all.1)

some_digits : (b : ℕ) (bs : List ℕ) → is_first_digit (class_at b) ≡ true → AllByRecursion (λ d. is_digit
    (class_at d) ≡ true) bs →
    (nat_le 1 (length (b ∷ bs)) && list_all (is_between 48 57) (b ∷ bs)) ≡ true
some_digits b bs first more =
    let some : nat_le 1 (length (b ∷ bs)) ≡ true = grind (arith, nat_tests) in
    rw (some, digit_byte b (first_digit (class_at b) first)) (all_digits bs more)

number_text : (text : List ℕ) → IsNumber text → is_integer_text text ≡ true
number_text text n =
    let minus = differs (λ x. is_first_digit (class_at x)) n.first 45 n.first_digit refl in
    let plus = differs (λ x. is_first_digit (class_at x)) n.first 43 n.first_digit refl in
    rw (n.is, minus, plus) (some_digits n.first n.more n.first_digit n.digits)

negative_text : (text ds : List ℕ) → text ≡ 45 ∷ ds → IsNumber ds → is_integer_text text ≡ true
negative_text text ds is n = rw (is, n.is) (some_digits n.first n.more n.first_digit n.digits)

integer_form : (text : List ℕ) → HasForm Int text [] → is_integer_text text ≡ true
integer_form text (inl zero) = rw zero refl
integer_form text (inr (inl number)) = number_text text number
integer_form text (inr (inr negative)) = negative_text text negative.0 negative.1 negative.2

form_of : (w : Written) → IsToken w → HasForm w.kind w.text []
form_of w token = (forms_are_tokens w.kind w.text).0 token

pub int_digits : (w : Written) → IsToken w → w.kind ≡ Int → is_integer_text w.text ≡ true
int_digits w token is = integer_form w.text (subst (λ (k : Kind). HasForm k w.text []) is (form_of w token))

-- what stands behind a sign
named_utf8 : (sign : ℕ) (text : List ℕ) → sign < 128 → IsNamed sign text [] → IsUtf8 text → IsUtf8 (drop 1 text)
named_utf8 sign text low n utf8 =
    rw n.is (cut_utf8 (sign ∷ []) (n.first ∷ n.more) (subst IsUtf8 n.is utf8) (inr ([], sign, refl, low))).1

pub local_utf8 : (w : Written) → IsToken w → w.kind ≡ Local → IsUtf8 w.text → IsUtf8 (drop 1 w.text)
local_utf8 w token is utf8 =
    named_utf8 95 w.text (omega arith) (subst (λ (k : Kind). HasForm k w.text []) is (form_of w token)) utf8

pub var_utf8 : (w : Written) → IsToken w → w.kind ≡ Var → IsUtf8 w.text → IsUtf8 (drop 1 w.text)
var_utf8 w token is utf8 =
    named_utf8 63 w.text (omega arith) (subst (λ (k : Kind). HasForm k w.text []) is (form_of w token)) utf8

-- what stands between two signs
between_utf8 : (first last : ℕ) (inside text : List ℕ) → first < 128 → begins_name (last ∷ []) ≡ false →
    text ≡ first ∷ (inside ++ last ∷ []) → IsUtf8 text → IsUtf8 (inner text)
between_utf8 first last inside text low ends is utf8 =
    let behind = (cut_utf8 (first ∷ []) (inside ++ last ∷ []) (subst IsUtf8 is utf8)
    (inr ([], first, refl, low))).1 in
    let before = (cut_utf8 inside (last ∷ []) behind (inl ends)).0 in
    let long : length inside ≡ length (first ∷ (inside ++ last ∷ [])) - 2 = omega (
      arith,
      length-append inside
          (last ∷ []),
    ) in
    rw is (subst IsUtf8 (sym (take_at inside (last ∷ []) _ long)) before)

pub str_utf8 : (w : Written) → IsToken w → w.kind ≡ Str → IsUtf8 w.text → IsUtf8 (inner w.text)
str_utf8 w token is utf8 =
    let form : IsString w.text = subst (λ (k : Kind). HasForm k w.text []) is (form_of w token) in
    between_utf8 34 34 (flat_map part_text form.parts) w.text (omega arith) refl form.is utf8

pub iri_utf8 : (w : Written) → IsToken w → w.kind ≡ Iri → IsUtf8 w.text → IsUtf8 (inner w.text)
iri_utf8 w token is utf8 =
    let form : IsIri w.text = subst (λ (k : Kind). HasForm k w.text []) is (form_of w token) in
    between_utf8 60 62 form.inside w.text (omega arith) refl form.is utf8

-- a text is what stands before its first colon, and nothing else, or the colon and more
abbrev HasColon : List ℕ → Type 0
HasColon t = (t ≡ before_colon t) ⊎ ((rest : List ℕ) × (t ≡ before_colon t ++ 58 ∷ rest))

one_more : (b : ℕ) (bs : List ℕ) → HasColon bs → (b ∷ bs ≡ b ∷ before_colon bs) ⊎ ((rest : List ℕ) × (b ∷ bs ≡ b ∷
    (before_colon bs ++ 58 ∷ rest)))
one_more b bs (inl none) = inl (ap (λ (x : List ℕ). b ∷ x) none)
one_more b bs (inr some) = inr (some.0, ap (λ (x : List ℕ). b ∷ x) some.1)

has_colon : (t : List ℕ) → HasColon t
has_colon [] = inl refl
has_colon (b ∷ bs) = elim (b == 58) as (λ v. (b == 58) ≡ v → (b ∷ bs ≡ cond v [] (b ∷ before_colon bs))
    ⊎ ((rest : List ℕ) × (b ∷ bs ≡ cond v [] (b ∷ before_colon bs) ++ 58 ∷ rest))) [
      | true ↦ λ is. inr (bs, ap (λ (c : ℕ). c ∷ bs) (eqb-true b 58 is))
      | false ↦ λ _. one_more b bs (has_colon bs)
    ] refl

whole : (t : List ℕ) → take (length t) t ≡ t
whole [] = refl
whole (b ∷ bs) = ap (λ (x : List ℕ). b ∷ x) (whole bs)

-- what stands before the first colon
pub colon_front : (t : List ℕ) → take (length (before_colon t)) t ≡ before_colon t
colon_front t = elim (has_colon t) [
  | inl none ↦ subst (λ (x : List ℕ). take (length x) t ≡ x) none (whole t)
  | inr some ↦ ap (take (length (before_colon t))) some.1 ∙ take_at (before_colon t) (58 ∷ some.0) (length
      (before_colon t)) refl
]

-- and behind it
pub colon_utf8 : (t : List ℕ) → IsUtf8 t → IsUtf8 (drop (suc (length (before_colon t))) t)
colon_utf8 t utf8 = elim (has_colon t) [
  | inl none ↦ subst IsUtf8 (sym (subst (λ (x : List ℕ). drop (suc (length x)) t ≡ []) none (past_end t))) IsUtf8-nil
  | inr some ↦ (
      let front = before_colon t in
      let whole : t ≡ (front ++ 58 ∷ []) ++ some.0 = some.1 ∙ sym (append_assoc front (58 ∷ []) some.0) in
      let parts = cut_utf8 (front ++ 58 ∷ []) some.0 (subst IsUtf8 whole utf8) (inr (front, 58, refl, omega arith)) in
      let long : length (front ++ 58 ∷ []) ≡ suc (length front) = omega (arith, length-append front (58 ∷ [])) in
      subst IsUtf8 (sym (ap (drop (suc (length front))) whole ∙ drop_at (front ++ 58 ∷ []) some.0 (suc
      (length front)) long)) parts.1)
]
  where
    past_end : (t : List ℕ) → drop (suc (length t)) t ≡ []
    past_end [] = refl
    past_end (b ∷ bs) = past_end bs

pub past_colon : (t : List ℕ) (n : ℕ) → n ≡ length (before_colon t) →
    drop 1 (take (length t - n) (drop n t)) ≡ drop (suc (length (before_colon t))) t
past_colon t n is =
    let one : n + 1 ≡ suc (length (before_colon t)) = omega (arith, is) in
    ap (drop 1) (take_rest t n) ∙ (drop-drop 1 n t ∙ ap (λ (k : ℕ). drop k t) one)
