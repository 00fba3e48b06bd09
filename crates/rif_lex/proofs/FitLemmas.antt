-- A piece has a byte at least, and lies within the text at whose front it stands.
use Rattle.std.proofs.Common.{◌≡◌, ℕ, ◌+◌, ◌≤◌, ◌<◌, List, [], ◌∷◌, length, drop, get_or, suc, refl, arith, true}
use Rattle.std.proofs.Common.{false, cond, Bool, ◌==◌, ◌||◌, Some, None, IfSome}
use Rattle.std.proofs.lemmas.List.{length-drop}
use Rattle.std.specs.declared.option.Option.{Option}
use Rattle.rif_lex.specs.declared.class.Class.{Class}
use Rattle.rif_lex.specs.declared.class.Class.TheVariants.{White, Letter, Zero, Digit, Underscore, Minus, Question}
use Rattle.rif_lex.specs.declared.class.Class.TheVariants.{Quote, Less, Open, Close, OpenSquare, CloseSquare, Equal}
use Rattle.rif_lex.specs.declared.class.Class.TheVariants.{Hash, Caret, Other}
use Rattle.rif_lex.specs.declared.token.Kind.{Kind}
use Rattle.rif_lex.specs.declared.token.Kind.TheVariants.{Local, Var, Str, Iri}
use Rattle.rif_lex.specs.declared.piece.Piece.{Piece}
use Rattle.rif_lex.specs.Characters.{class_at, begins, begins_two, begins_name, begins_number, is_name, is_digit}
use Rattle.rif_lex.specs.Characters.{is_escape, is_inside_iri}
use Rattle.rif_lex.specs.Pieces.{name_length, digits_length, longer, string_length, escaped_length, iri_length}
use Rattle.rif_lex.specs.Pieces.{annotation_length, token_to, blank_to, named, word_to, integer_to, piece_of}
use Rattle.rif_lex.specs.Pieces.{piece_at}
use Rattle.rif_lex.specs.Scanning.{FitsIn}
use Rattle.rif_lex.proofs.TestLemmas.{both}

pub name_length_le : (bs : List ℕ) → name_length bs ≤ length bs
name_length_le [] = omega arith
name_length_le (b ∷ bs) = elim (is_name (class_at b) bs) as (λ v. cond v (suc (name_length bs)) 0 ≤ suc (length bs)) [
  | true ↦ omega (arith, name_length_le bs)
  | false ↦ omega arith
]

pub digits_length_le : (bs : List ℕ) → digits_length bs ≤ length bs
digits_length_le [] = omega arith
digits_length_le (b ∷ bs) = elim (is_digit (class_at b))
    as (λ v. cond v (suc (digits_length bs)) 0 ≤ suc (length bs)) [
      | true ↦ omega (arith, digits_length_le bs)
      | false ↦ omega arith
    ]

-- an end, if there is one, is at most so many bytes on
abbrev EndsWithin : Option ℕ → ℕ → Type 0
EndsWithin o n = IfSome o (λ end. end ≤ n)

either_within : (test : Bool) (x y : Option ℕ) (n : ℕ) → (test ≡ true → EndsWithin x n) → EndsWithin y n →
    EndsWithin (cond test x y) n
either_within true x y n first second = first refl
either_within false x y n first second = second

longer_within : (m n : ℕ) (o : Option ℕ) → EndsWithin o n → EndsWithin (longer m o) (m + n)
longer_within m n None within = tt
longer_within m n (Some end) within = omega arith

one_within : (bs : List ℕ) (o : Option ℕ) → EndsWithin o (length bs) → EndsWithin (longer 1 o) (suc (length bs))
one_within bs None within = tt
one_within bs (Some end) within = omega arith

mutual
  string_within : (bs : List ℕ) → EndsWithin (string_length bs) (length bs)
  string_within [] = tt
  string_within (b ∷ bs) =
      either_within (b == 34) _ _ _ (λ _. omega arith)
      (either_within (b == 10) _ _ _ (λ _. tt)
      (either_within (b == 92) _ _ _ (λ _. one_within bs _ (escaped_within bs)) (one_within bs _ (string_within bs))))

  escaped_within : (bs : List ℕ) → EndsWithin (escaped_length bs) (length bs)
  escaped_within [] = tt
  escaped_within (b ∷ bs) = either_within (is_escape b) _ _ _ (λ _. one_within bs _ (string_within bs)) tt

iri_within : (bs : List ℕ) → EndsWithin (iri_length bs) (length bs)
iri_within [] = tt
iri_within (b ∷ bs) =
    either_within (b == 62) _ _ _ (λ _. omega arith)
    (either_within (is_inside_iri b) _ _ _ (λ _. one_within bs _ (iri_within bs)) tt)

begins_some : (c : ℕ) (bs : List ℕ) → begins c bs ≡ true → 1 ≤ length bs
begins_some c [] is = cc
begins_some c (b ∷ bs) is = omega arith

-- a byte there, and a further length
pub drop_some : (c at : ℕ) (bs : List ℕ) → begins c (drop at bs) ≡ true → at + 1 ≤ length bs
drop_some c at bs is = omega (arith, begins_some c (drop at bs) is, length-drop at bs)

annotation_within : (bs : List ℕ) → EndsWithin (annotation_length bs) (length bs)
annotation_within [] = tt
annotation_within (b ∷ bs) =
    either_within (begins_two 42 41 (b ∷ bs)) _ _ _
    (λ close. omega (arith, begins_some 41 bs (both (b == 42) (begins 41 bs) close).1))
    (one_within bs _ (annotation_within bs))

either_fits : (test : Bool) (x y : Piece) (n : ℕ) → (test ≡ true → FitsIn x n) → FitsIn y n → FitsIn (cond test x y) n
either_fits true x y n first second = first refl
either_fits false x y n first second = second

word_fits : (end : ℕ) (text : List ℕ) → 1 ≤ end → end ≤ length text → FitsIn (word_to end text) (length text)
word_fits end text some within =
    either_fits (begins 58 (drop end text)) _ _ _
    (λ colon.
    let room = drop_some 58 end text colon in
    let names = name_length_le (drop (end + 1) text) in
    let left = length-drop (end + 1) text in
    (omega arith, omega arith))
    (some, within)

integer_fits : (end : ℕ) (text : List ℕ) → 1 ≤ end → end ≤ length text → FitsIn (integer_to end text) (length text)
integer_fits end text some within =
    either_fits (begins_name (drop end text) || begins 58 (drop end text)) _ _ _ (λ _. tt) (some, within)

number_fits : (b : ℕ) (bs : List ℕ) → FitsIn (integer_to (1 + digits_length bs) (b ∷ bs)) (suc (length bs))
number_fits b bs = let digits = digits_length_le bs in
    integer_fits (1 + digits_length bs) (b ∷ bs) (omega arith) (omega arith)

named_fits : (kind : Kind) (bs : List ℕ) → FitsIn (named kind (name_length bs)) (suc (length bs))
named_fits kind bs =
    let names = name_length_le bs in either_fits (name_length bs == 0) _ _ _ (λ _. tt) (omega arith, omega arith)

token_fits : (kind : Kind) (o : Option ℕ) (n : ℕ) → EndsWithin o n → FitsIn (token_to kind (longer 1 o)) (suc n)
token_fits kind None n within = tt
token_fits kind (Some end) n within = (omega arith, omega arith)

blank_fits : (bs : List ℕ) → begins 42 bs ≡ true →
    FitsIn (blank_to (longer 2 (annotation_length (drop 1 bs)))) (suc (length bs))
blank_fits [] star = cc
blank_fits (c ∷ cs) star = elim (annotation_length cs) as (λ o. EndsWithin o (length cs) →
    FitsIn (blank_to (longer 2 o)) (suc (suc (length cs)))) [
      | None ↦ λ _. tt
      | Some end ↦ λ within. (omega arith, omega arith)
    ] (annotation_within cs)

sign_fits : (n : ℕ) → (1 ≤ 1) × (1 ≤ suc n)
sign_fits n = (omega arith, omega arith)

signs_fit : (c : ℕ) (bs : List ℕ) → begins c bs ≡ true → (1 ≤ 2) × (2 ≤ suc (length bs))
signs_fit c bs is = (omega arith, omega (arith, begins_some c bs is))

fits_of : (c : Class) (b : ℕ) (bs : List ℕ) → FitsIn (piece_of c (b ∷ bs)) (suc (length bs))
fits_of White b bs = sign_fits (length bs)
fits_of Letter b bs = let names = name_length_le bs in
    word_fits (1 + name_length bs) (b ∷ bs) (omega arith) (omega arith)
fits_of Zero b bs = integer_fits 1 (b ∷ bs) (omega arith) (omega arith)
fits_of Digit b bs = number_fits b bs
fits_of Underscore b bs = named_fits Local bs
fits_of Minus b bs =
    either_fits (begins 62 bs) _ _ _ (signs_fit 62 bs)
    (either_fits (begins_number bs) _ _ _ (λ _. number_fits b bs) tt)
fits_of Question b bs = named_fits Var bs
fits_of Quote b bs = token_fits Str (string_length bs) (length bs) (string_within bs)
fits_of Less b bs = token_fits Iri (iri_length bs) (length bs) (iri_within bs)
fits_of Open b bs = either_fits (begins 42 bs) _ _ _ (blank_fits bs) (sign_fits (length bs))
fits_of Close b bs = sign_fits (length bs)
fits_of OpenSquare b bs = sign_fits (length bs)
fits_of CloseSquare b bs = sign_fits (length bs)
fits_of Equal b bs = sign_fits (length bs)
fits_of Hash b bs = either_fits (begins 35 bs) _ _ _ (signs_fit 35 bs) (sign_fits (length bs))
fits_of Caret b bs = either_fits (begins 94 bs) _ _ _ (signs_fit 94 bs) tt
fits_of Other b bs = tt

-- the piece at the front of a text fits in it
pub piece_fits : (text : List ℕ) → FitsIn (piece_at text) (length text)
piece_fits [] = tt
piece_fits (b ∷ bs) = fits_of (class_at b) b bs

pub first_fits : (text : List ℕ) → 0 < length text → FitsIn (piece_of (class_at (get_or text 0 0)) text) (length text)
first_fits [] some = absurd (omega arith)
first_fits (b ∷ bs) some = fits_of (class_at b) b bs
