-- From a form at the front of a text to the piece that stands there.
use Rattle.std.proofs.Common.{◌≡◌, ℕ, ◌+◌, ◌≤◌, List, [], ◌∷◌, ◌++◌, length, take, drop, suc, refl, ap, ◌∙◌, sym}
use Rattle.std.proofs.Common.{arith, true, false, cond, Bool, ◌==◌, ◌||◌, not, Some, inl, inr, length-append}
use Rattle.std.proofs.Common.{append_assoc}
use Rattle.std.proofs.lemmas.List.{take-append-drop, drop_at, drop-drop}
use Rattle.std.proofs.Math.Dec.{eqb-suc-zero}
use Rattle.std.specs.List.{flat_map, AllByRecursion}
use Rattle.std.specs.declared.option.Option.{Option}
use Rattle.rif_lex.specs.declared.class.Class.{Class}
use Rattle.rif_lex.specs.declared.class.Class.TheVariants.{Letter, Zero, Digit}
use Rattle.rif_lex.specs.declared.token.Kind.{Kind}
use Rattle.rif_lex.specs.declared.token.Kind.TheVariants.{Word, Curie, Local, Var, Int, Str, Iri, Open as OpenToken}
use Rattle.rif_lex.specs.declared.token.Kind.TheVariants.{Close as CloseToken, OpenSquare as OpenSquareToken}
use Rattle.rif_lex.specs.declared.token.Kind.TheVariants.{CloseSquare as CloseSquareToken, Equal as EqualToken}
use Rattle.rif_lex.specs.declared.token.Kind.TheVariants.{Hash as HashToken, HashHash, Arrow, Carets}
use Rattle.rif_lex.specs.declared.piece.Piece.TheVariants.{Lexeme}
use Rattle.rif_lex.specs.Characters.{class_at, begins, begins_name, is_name, is_digit, is_first_digit, is_inside_iri}
use Rattle.rif_lex.specs.Pieces.{name_length, digits_length, longer, string_length, iri_length, named, integer_to}
use Rattle.rif_lex.specs.Pieces.{piece_at}
use Rattle.rif_lex.specs.Forms.{AreNames, IsWord, IsCurie, IsNamed, IsNumber, Part, plain, escape, part_text, is_part}
use Rattle.rif_lex.specs.Forms.{IsString, IsIri, HasForm}
use Rattle.rif_lex.proofs.TestLemmas.{differs}

-- names and what follows them
pub names_at_least : (bs rest : List ℕ) → AreNames bs rest → length bs ≤ name_length (bs ++ rest)
names_at_least [] rest names = omega arith
names_at_least (b ∷ bs) rest names = rw names.0 (omega (arith, names_at_least bs rest names.1))

names_stop : (bs rest : List ℕ) → AreNames bs rest → begins_name rest ≡ false → name_length (bs ++ rest) ≡ length bs
names_stop [] [] names end = refl
names_stop [] (c ∷ cs) names end = rw end refl
names_stop (b ∷ bs) rest names end = rw names.0 (ap suc (names_stop bs rest names.1 end))

-- one name character more
pub names_more : (bs : List ℕ) (c : ℕ) (rest : List ℕ) → AreNames bs (c ∷ rest) → is_name (class_at c) rest ≡ true →
    AreNames (bs ++ c ∷ []) rest
names_more [] c rest names is = (is, tt)
names_more (b ∷ bs) c rest names is = (rw (append_assoc bs (c ∷ []) rest) names.0, names_more bs c rest names.1 is)

-- the names at the front of a text
pub names_front : (bs : List ℕ) → AreNames (take (name_length bs) bs) (drop (name_length bs) bs)
names_front [] = tt
names_front (b ∷ bs) = elim (is_name (class_at b) bs) as (λ v. is_name (class_at b) bs ≡ v →
    AreNames (take (cond v (suc (name_length bs)) 0) (b ∷ bs)) (drop (cond v (suc (name_length bs)) 0) (b ∷ bs))) [
      | true ↦ λ is. (rw (take-append-drop (name_length bs) bs) is, names_front bs)
      | false ↦ λ _. tt
    ] refl

pub names_end : (bs : List ℕ) → begins_name (drop (name_length bs) bs) ≡ false
names_end [] = refl
names_end (b ∷ bs) = elim (is_name (class_at b) bs) as (λ v. is_name (class_at b) bs ≡ v →
    begins_name (drop (cond v (suc (name_length bs)) 0) (b ∷ bs)) ≡ false) [
      | true ↦ λ _. names_end bs
      | false ↦ λ none. none
    ] refl

-- What can't go on: where this follows, a token of the kind is the longest.
abbrev pub CannotGoOn : Kind → List ℕ → Type 0
CannotGoOn Word rest = (begins_name rest ≡ false) × (begins 58 rest ≡ false)
CannotGoOn Curie rest = begins_name rest ≡ false
CannotGoOn Local rest = begins_name rest ≡ false
CannotGoOn Var rest = begins_name rest ≡ false
CannotGoOn Int rest = (begins_name rest ≡ false) × (begins 58 rest ≡ false)
CannotGoOn OpenToken rest = begins 42 rest ≡ false
CannotGoOn HashToken rest = begins 35 rest ≡ false
CannotGoOn _ rest = Unit {0}

word_piece : (text rest : List ℕ) → IsWord text rest → begins_name rest ≡ false → begins 58 rest ≡ false →
    piece_at (text ++ rest) ≡ Lexeme Word (length text)
word_piece text rest w name colon = rw w.is (
    let stop = names_stop w.more rest w.names name in
    let past = drop_at (w.first ∷ w.more) rest (1 + length w.more) (omega arith) in
    rw (w.letter, stop, past, colon) (ap (Lexeme Word) (omega arith)))

-- a CURIE's bytes as they stand in a text: its first letter, the word's other bytes, a colon and more
pub curie_at : (b : ℕ) (bs ns rest : List ℕ) → class_at b ≡ Letter → AreNames bs (58 ∷ ns ++ rest) →
    piece_at (b ∷ (bs ++ (58 ∷ ns ++ rest))) ≡ Lexeme Curie (1 + length bs + 1 + name_length (ns ++ rest))
curie_at b bs ns rest letter names =
    let text = b ∷ (bs ++ (58 ∷ ns ++ rest)) in
    let stop = names_stop bs (58 ∷ ns ++ rest) names refl in
    let at = drop_at (b ∷ bs) (58 ∷ ns ++ rest) (1 + length bs) (omega arith) in
    let past : drop (1 + length bs + 1) text ≡ ns ++ rest = sym (drop-drop 1 (1 + length bs) text) ∙ ap (drop 1) at in
    rw (letter, stop, at, past) refl

curie_piece : (text rest : List ℕ) → IsCurie text rest → begins_name rest ≡ false →
    piece_at (text ++ rest) ≡ Lexeme Curie (length text)
curie_piece text rest c name =
    let b = c.is_word.first in
    let bs = c.is_word.more in
    let whole : text ≡ b ∷ (bs ++ 58 ∷ c.more) = c.is ∙ ap (λ w. w ++ 58 ∷ c.more) c.is_word.is in
    let assoc : (bs ++ 58 ∷ c.more) ++ rest ≡ bs ++ (58 ∷ c.more ++ rest) = append_assoc bs (58 ∷ c.more) rest in
    let stop = names_stop c.more rest c.names name in
    rw (whole, assoc, curie_at b bs c.more rest c.is_word.letter c.is_word.names, stop)
    (ap (Lexeme Curie) (omega (arith, length-append bs (58 ∷ c.more))))

-- the bytes of a sign and a name
named_at : (kind : Kind) (first : ℕ) (more rest : List ℕ) → AreNames (first ∷ more) rest → begins_name rest ≡ false →
    named kind (name_length (first ∷ more ++ rest)) ≡ Lexeme kind (suc (suc (length more)))
named_at kind first more rest names name =
    let stop = names_stop (first ∷ more) rest names name in
    let some = eqb-suc-zero (length more) in
    rw (stop, some) (ap (Lexeme kind) (omega arith))

local_piece : (text rest : List ℕ) → IsNamed 95 text rest → begins_name rest ≡ false →
    piece_at (text ++ rest) ≡ Lexeme Local (length text)
local_piece text rest n name = rw n.is (named_at Local n.first n.more rest n.names name)

var_piece : (text rest : List ℕ) → IsNamed 63 text rest → begins_name rest ≡ false →
    piece_at (text ++ rest) ≡ Lexeme Var (length text)
var_piece text rest n name = rw n.is (named_at Var n.first n.more rest n.names name)

pub digits_at_least : (ds rest : List ℕ) → AllByRecursion (λ d. is_digit (class_at d) ≡ true) ds →
    length ds ≤ digits_length (ds ++ rest)
digits_at_least [] rest digits = omega arith
digits_at_least (d ∷ ds) rest digits = rw digits.0 (omega (arith, digits_at_least ds rest digits.1))

digit_is_name : (c : Class) (rest : List ℕ) → is_name c rest ≡ false → is_digit c ≡ false
digit_is_name Zero rest none = cc
digit_is_name Digit rest none = cc
digit_is_name c rest none = refl

digits_stop : (ds rest : List ℕ) → AllByRecursion (λ d. is_digit (class_at d) ≡ true) ds → begins_name rest ≡ false →
    digits_length (ds ++ rest) ≡ length ds
digits_stop [] [] digits end = refl
digits_stop [] (c ∷ cs) digits end = rw (digit_is_name (class_at c) cs end) refl
digits_stop (d ∷ ds) rest digits end = rw digits.0 (ap suc (digits_stop ds rest digits.1 end))

pub is_first : (c : Class) → is_first_digit c ≡ true → c ≡ Digit
is_first Digit is = refl
is_first c is = cc

-- the digits of a number with a byte before them
digits_at : (b : ℕ) (ds rest : List ℕ) → AllByRecursion (λ d. is_digit (class_at d) ≡ true) ds →
    begins_name rest ≡ false → begins 58 rest ≡ false →
    integer_to (1 + digits_length (ds ++ rest)) (b ∷ (ds ++ rest)) ≡ Lexeme Int (suc (length ds))
digits_at b ds rest digits name colon =
    let stop = digits_stop ds rest digits name in
    let past = drop_at (b ∷ ds) rest (1 + length ds) (omega arith) in
    rw (stop, past, name, colon) (ap (Lexeme Int) (omega arith))

number_piece : (text rest : List ℕ) → IsNumber text → begins_name rest ≡ false → begins 58 rest ≡ false →
    piece_at (text ++ rest) ≡ Lexeme Int (length text)
number_piece text rest n name colon =
    rw (n.is, is_first (class_at n.first) n.first_digit) (digits_at n.first n.more rest n.digits name colon)

negative_piece : (text rest : List ℕ) → IsNumber text → begins_name rest ≡ false → begins 58 rest ≡ false →
    piece_at (45 ∷ text ++ rest) ≡ Lexeme Int (suc (length text))
negative_piece text rest n name colon =
    let digit = is_first (class_at n.first) n.first_digit in
    let all : AllByRecursion (λ d. is_digit (class_at d) ≡ true) (n.first ∷ n.more) = (rw digit refl, n.digits) in
    let arrow = differs (λ x. is_first_digit (class_at x)) n.first 62 n.first_digit refl in
    rw (n.is, arrow, n.first_digit) (digits_at 45 (n.first ∷ n.more) rest all name colon)

zero_piece : (rest : List ℕ) → begins_name rest ≡ false → begins 58 rest ≡ false → piece_at (48 ∷ rest) ≡ Lexeme Int 1
zero_piece rest name colon = rw (name, colon) refl

longer_suc : (o : Option ℕ) (n : ℕ) → o ≡ Some n → longer 1 o ≡ Some (suc n)
longer_suc o n e = rw e (ap Some (omega arith))

-- a byte that is no `"`, line feed or `\\`
plain_tests : (a b c : Bool) → not (a || b || c) ≡ true → (a ≡ false) × (b ≡ false) × (c ≡ false)
plain_tests true b c e = cc
plain_tests false true c e = cc
plain_tests false false true e = cc
plain_tests false false false e = (refl, refl, refl)

parts_length : (ps : List Part) (rest : List ℕ) → AllByRecursion (λ p. is_part p ≡ true) ps →
    string_length (flat_map part_text ps ++ 34 ∷ rest) ≡ Some (suc (length (flat_map part_text ps)))
parts_length [] rest fit = refl
parts_length (plain b ∷ ps) rest fit =
    let t = plain_tests (b == 34) (b == 10) (b == 92) fit.0 in
    rw (t.0, t.1, t.2) (longer_suc _ _ (parts_length ps rest fit.1))
parts_length (escape b ∷ ps) rest fit =
    rw fit.0 (longer_suc _ _ (longer_suc _ _ (parts_length ps rest fit.1)))

string_piece : (text rest : List ℕ) → IsString text → piece_at (text ++ rest) ≡ Lexeme Str (length text)
string_piece text rest s =
    let inside = flat_map part_text s.parts in
    let assoc : (inside ++ 34 ∷ []) ++ rest ≡ inside ++ 34 ∷ rest = append_assoc inside (34 ∷ []) rest in
    rw (s.is, assoc, parts_length s.parts rest s.fit)
    (ap (Lexeme Str) (omega (arith, length-append inside (34 ∷ []))))

inside_length : (bs rest : List ℕ) → AllByRecursion (λ b. is_inside_iri b ≡ true) bs →
    iri_length (bs ++ 62 ∷ rest) ≡ Some (suc (length bs))
inside_length [] rest fit = refl
inside_length (b ∷ bs) rest fit =
    rw (fit.0, differs is_inside_iri b 62 fit.0 refl) (longer_suc _ _ (inside_length bs rest fit.1))

iri_piece : (text rest : List ℕ) → IsIri text → piece_at (text ++ rest) ≡ Lexeme Iri (length text)
iri_piece text rest i =
    let assoc : (i.inside ++ 62 ∷ []) ++ rest ≡ i.inside ++ 62 ∷ rest = append_assoc i.inside (62 ∷ []) rest in
    rw (i.is, assoc, inside_length i.inside rest i.fit)
    (ap (Lexeme Iri) (omega (arith, length-append i.inside (62 ∷ []))))

int_piece : (text rest : List ℕ) → HasForm Int text rest → begins_name rest ≡ false → begins 58 rest ≡ false →
    piece_at (text ++ rest) ≡ Lexeme Int (length text)
int_piece text rest form name colon = elim form [
  | inl naught ↦ rw naught (zero_piece rest name colon)
  | inr other ↦ elim other [
    | inl number ↦ number_piece text rest number name colon
    | inr (ds, is, number) ↦ rw is (negative_piece ds rest number name colon)
  ]
]

-- a token that has a form, and can't go on, is the piece
pub piece_of_form : (k : Kind) (text rest : List ℕ) → HasForm k text rest → CannotGoOn k rest →
    piece_at (text ++ rest) ≡ Lexeme k (length text)
piece_of_form Word text rest form stop = word_piece text rest form stop.0 stop.1
piece_of_form Curie text rest form stop = curie_piece text rest form stop
piece_of_form Local text rest form stop = local_piece text rest form stop
piece_of_form Var text rest form stop = var_piece text rest form stop
piece_of_form Int text rest form stop = int_piece text rest form stop.0 stop.1
piece_of_form Str text rest form stop = string_piece text rest form
piece_of_form Iri text rest form stop = iri_piece text rest form
piece_of_form OpenToken text rest form stop = rw (form, stop) refl
piece_of_form CloseToken text rest form stop = rw form refl
piece_of_form OpenSquareToken text rest form stop = rw form refl
piece_of_form CloseSquareToken text rest form stop = rw form refl
piece_of_form EqualToken text rest form stop = rw form refl
piece_of_form HashToken text rest form stop = rw (form, stop) refl
piece_of_form HashHash text rest form stop = rw form refl
piece_of_form Arrow text rest form stop = rw form refl
piece_of_form Carets text rest form stop = rw form refl
