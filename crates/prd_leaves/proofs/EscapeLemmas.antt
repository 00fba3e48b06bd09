-- A text of UTF-8 stays one where its escapes are undone.
use Rattle.std.proofs.Common.{◌≡◌, sym, subst, ap, refl, ℕ, ◌<◌, ◌≤◌, ◌==◌, ◌&&◌, ◌||◌, nat_lt, Bool, true, false}
use Rattle.std.proofs.Common.{cond, suc, List, [], ◌∷◌, ◌++◌, length, get_or, append-nil, arith, IsUtf8}
use Rattle.std.specs.List.{list_any}
use Rattle.std.proofs.lemmas.Bool.{ltb-true, ltb-false}
use Rattle.std.proofs.lemmas.Bool.Decides.{nat_tests}
use Rattle.std.proofs.lemmas.Str.{inside_one, encode_ascii, length-encode, len_utf8_bounds, IsUtf8-nil, IsUtf8-append}
use Rattle.std.proofs.lemmas.Str.{IsUtf8-from_ascii}
use Rattle.std.proofs.lemmas.Str.Ascii.{IsAscii-cons, IsAscii-nil}
use lib.Utf8.{scalars, scalar, encodes, encode}
use Rattle.prd_leaves.specs.Literals.{escape_of, unescaped_from, unescaped}

-- each byte is none of ASCII
abbrev pub AreHigh : List ℕ → Type 0
AreHigh bs = (k : ℕ) → k < length bs → 128 ≤ get_or bs k 0

pub high_rest : (b : ℕ) (bs : List ℕ) → AreHigh (b ∷ bs) → AreHigh bs
high_rest b bs high = λ k within. high (suc k) (omega arith)

pub high_apart : (b c : ℕ) → 128 ≤ b → c < 128 → (b == c) ≡ false
high_apart b c high low = grind (arith, nat_tests)

high_escape : (b : ℕ) → 128 ≤ b → escape_of b ≡ b
high_escape b high =
    rw (
      high_apart b 110 high (omega arith),
      high_apart b 116 high (omega arith),
      high_apart b 114 high
          (omega arith),
    ) refl

past_high : (bs rest : List ℕ) → AreHigh bs → unescaped_from false (bs ++ rest) ≡ bs ++ unescaped_from false rest
past_high [] rest high = refl
past_high (b ∷ bs) rest high =
    rw (high_apart b 92 (high 0 (omega arith)) (omega arith)) (ap (λ (x : List ℕ). b ∷ x) (past_high bs rest
    (high_rest b bs high)))

past_character : (escape : Bool) (bs rest : List ℕ) → 0 < length bs → AreHigh bs →
    unescaped_from escape (bs ++ rest) ≡ bs ++ unescaped_from false rest
past_character false bs rest some high = past_high bs rest high
past_character true [] rest some high = absurd (omega arith)
past_character true (b ∷ bs) rest some high =
    rw (high_escape b (high 0 (omega arith)), past_high bs rest (high_rest b bs high)) refl

pub high_character : (c : ℕ) → 128 ≤ c → AreHigh (encode c)
high_character c high = λ k within.
    elim (nat_lt (get_or (encode c) k 0) 128) as (λ v. nat_lt (get_or (encode c) k 0) 128 ≡ v → 128 ≤ get_or
    (encode c) k 0) [
      | true ↦ λ low. absurd (let same = inside_one c [] (encode c) k (sym (append-nil (encode c))) within
          (ltb-true _ _ low) in
          omega (arith, same, ltb-true _ _ low))
      | false ↦ λ not_low. ltb-false _ _ not_low
    ] refl

some_bytes : (c : ℕ) → 0 < length (encode c)
some_bytes c = let bounds = len_utf8_bounds c in omega (arith, length-encode c, bounds.0)

pub low_utf8 : (b : ℕ) → b < 128 → IsUtf8 (b ∷ [])
low_utf8 b low = IsUtf8-from_ascii (b ∷ []) (IsAscii-cons b [] low IsAscii-nil)

escape_low : (b : ℕ) → b < 128 → escape_of b < 128
escape_low b low = elim (b == 110) as (λ v. cond v 10 (cond (b == 116) 9 (cond (b == 114) 13 b)) < 128) [
  | true ↦ omega arith
  | false ↦ elim (b == 116) as (λ v. cond v 9 (cond (b == 114) 13 b) < 128) [
    | true ↦ omega arith
    | false ↦ elim (b == 114) as (λ v. cond v 13 b < 128) [ true ↦ omega arith | false ↦ low ]
  ]
]

pub character_utf8 : (c : ℕ) → scalar c ≡ true → IsUtf8 (encode c)
character_utf8 c is = (c ∷ [], (rw is refl, append-nil (encode c)))

-- behind a character of ASCII, and in front of a text that is one already
low_step : (escape : Bool) (b : ℕ) (rest : List ℕ) → b < 128 → ((e : Bool) → IsUtf8 (unescaped_from e rest)) →
    IsUtf8 (unescaped_from escape (b ∷ rest))
low_step true b rest low more =
    IsUtf8-append (escape_of b ∷ []) (unescaped_from false rest) (low_utf8 (escape_of b) (escape_low b low))
    (more false)
low_step false b rest low more =
    elim (b == 92) as (λ v. IsUtf8 (cond v (unescaped_from true rest) (b ∷ unescaped_from false rest))) [
      | true ↦ more true
      | false ↦ IsUtf8-append (b ∷ []) (unescaped_from false rest) (low_utf8 b low) (more false)
    ]

high_step : (escape : Bool) (c : ℕ) (rest : List ℕ) → 128 ≤ c → scalar c ≡ true → ((e : Bool) → IsUtf8
    (unescaped_from e rest)) →
    IsUtf8 (unescaped_from escape (encode c ++ rest))
high_step escape c rest high is more =
    rw (past_character escape (encode c) rest (some_bytes c) (high_character c high))
    (IsUtf8-append (encode c) (unescaped_from false rest) (character_utf8 c is) (more false))

neither : (s t : Bool) → s || t ≡ false → (s ≡ false) × (t ≡ false)
neither true t e = cc
neither false t e = (refl, e)

pub both : (s t : Bool) → s && t ≡ true → (s ≡ true) × (t ≡ true)
both true t e = (refl, e)
both false t e = cc

characters_utf8 : (cs : List ℕ) → scalars cs ≡ true → (escape : Bool) → IsUtf8 (unescaped_from escape (encodes cs))
characters_utf8 [] all escape = IsUtf8-nil
characters_utf8 (c ∷ cs) all escape =
    let parts = both (scalar c) (scalars cs) all in
    let more = characters_utf8 cs parts.1 in
    elim (nat_lt c 128) as (λ v. nat_lt c 128 ≡ v → IsUtf8 (unescaped_from escape (encode c ++ encodes cs))) [
      | true ↦ λ low. rw (encode_ascii c (ltb-true _ _ low)) (low_step escape c (encodes cs) (ltb-true _ _ low) more)
      | false ↦ λ high. high_step escape c (encodes cs) (ltb-false _ _ high) parts.0 more
    ] refl

pub unescaped_utf8 : (text : List ℕ) → IsUtf8 text → IsUtf8 (unescaped text)
unescaped_utf8 text utf8 =
    subst (λ (t : List ℕ). IsUtf8 (unescaped t)) utf8.1.1 (characters_utf8 utf8.0 utf8.1.0 false)

-- a text without escapes stands for itself
pub plain_is : (text : List ℕ) → list_any (λ b. b == 92) text ≡ false → unescaped text ≡ text
plain_is [] none = refl
plain_is (b ∷ bs) none =
    let parts = neither (b == 92) (list_any (λ c. c == 92) bs) none in
    rw parts.0 (ap (λ (x : List ℕ). b ∷ x) (plain_is bs parts.1))
