-- A token stands in one line.
use Rattle.std.proofs.Common.{◌≡◌, ℕ, ◌+◌, List, [], ◌∷◌, ◌++◌, inl, inr, take, suc, refl, ◌∙◌, arith, true, false}
use Rattle.std.proofs.Common.{cond, Bool, ◌==◌}
use Rattle.std.specs.List.{flat_map, AllByRecursion}
use Rattle.rif_lex.specs.declared.token.Kind.{Kind}
use Rattle.rif_lex.specs.declared.token.Kind.TheVariants.{Word, Curie, Local, Var, Int, Str, Iri, Open, Close}
use Rattle.rif_lex.specs.declared.token.Kind.TheVariants.{OpenSquare, CloseSquare, Equal, Hash, HashHash, Arrow}
use Rattle.rif_lex.specs.declared.token.Kind.TheVariants.{Carets}
use Rattle.rif_lex.specs.declared.piece.Piece.TheVariants.{Lexeme}
use Rattle.rif_lex.specs.Characters.{class_at, is_name, is_digit, is_first_digit, is_escape, is_inside_iri}
use Rattle.rif_lex.specs.Pieces.{piece_at}
use Rattle.rif_lex.specs.Places.{line_feeds}
use Rattle.rif_lex.specs.Forms.{AreNames, IsWord, IsCurie, IsNumber, Part, plain, escape, part_text, is_part}
use Rattle.rif_lex.specs.Forms.{IsString, IsIri, HasForm}
use Rattle.rif_lex.proofs.TestLemmas.{differs}
use Rattle.rif_lex.proofs.SplitLemmas.{piece_splits}
use Rattle.rif_lex.proofs.FollowLemmas.{split_front}

line_feeds-append : (xs ys : List ℕ) → line_feeds (xs ++ ys) ≡ line_feeds xs + line_feeds ys
line_feeds-append [] ys = omega arith
line_feeds-append (x ∷ xs) ys =
    elim (x == 10) as (λ v. cond v (suc (line_feeds (xs ++ ys))) (line_feeds (xs ++ ys))
    ≡ cond v (suc (line_feeds xs)) (line_feeds xs) + line_feeds ys) [
      | true ↦ omega (arith, line_feeds-append xs ys)
      | false ↦ line_feeds-append xs ys
    ]

-- bytes of which each passes a test that no line feed passes
all_in_line : (p : ℕ → Bool) (bs : List ℕ) → p 10 ≡ false → AllByRecursion (λ b. p b ≡ true) bs → line_feeds bs ≡ 0
all_in_line p [] never all = refl
all_in_line p (b ∷ bs) never all = rw (differs p b 10 all.0 never) (all_in_line p bs never all.1)

names_in_line : (bs rest : List ℕ) → AreNames bs rest → line_feeds bs ≡ 0
names_in_line [] rest names = refl
names_in_line (b ∷ bs) rest names =
    rw (differs (λ x. is_name (class_at x) (bs ++ rest)) b 10 names.0 refl) (names_in_line bs rest names.1)

word_in_line : (text rest : List ℕ) → IsWord text rest → line_feeds text ≡ 0
word_in_line text rest w =
    let letter : is_name (class_at w.first) [] ≡ true = rw w.letter refl in
    rw (w.is, differs (λ x. is_name (class_at x) []) w.first 10 letter refl) (names_in_line w.more rest w.names)

curie_in_line : (text rest : List ℕ) → IsCurie text rest → line_feeds text ≡ 0
curie_in_line text rest c =
    let word = word_in_line c.word (58 ∷ c.more ++ rest) c.is_word in
    rw c.is (line_feeds-append c.word (58 ∷ c.more) ∙ omega (arith, names_in_line c.more rest c.names))

number_in_line : (text : List ℕ) → IsNumber text → line_feeds text ≡ 0
number_in_line text n =
    rw (n.is, differs (λ x. is_first_digit (class_at x)) n.first 10 n.first_digit refl)
    (all_in_line (λ d. is_digit (class_at d)) n.more refl n.digits)

int_in_line : (text rest : List ℕ) → HasForm Int text rest → line_feeds text ≡ 0
int_in_line text rest form = elim form [
  | inl naught ↦ rw naught refl
  | inr other ↦ elim other [
    | inl number ↦ number_in_line text number
    | inr (ds, is, number) ↦ rw is (number_in_line ds number)
  ]
]

parts_in_line : (ps : List Part) → AllByRecursion (λ p. is_part p ≡ true) ps → line_feeds (flat_map part_text ps) ≡ 0
parts_in_line [] fit = refl
parts_in_line (plain b ∷ ps) fit = rw (differs (λ x. is_part (plain x)) b 10 fit.0 refl) (parts_in_line ps fit.1)
parts_in_line (escape b ∷ ps) fit = rw (differs is_escape b 10 fit.0 refl) (parts_in_line ps fit.1)

string_in_line : (text : List ℕ) → IsString text → line_feeds text ≡ 0
string_in_line text s =
    let inside = parts_in_line s.parts s.fit in
    rw s.is (line_feeds-append (flat_map part_text s.parts) (34 ∷ []) ∙ omega arith)

iri_in_line : (text : List ℕ) → IsIri text → line_feeds text ≡ 0
iri_in_line text i =
    let inside = all_in_line is_inside_iri i.inside refl i.fit in
    rw i.is (line_feeds-append i.inside (62 ∷ []) ∙ omega arith)

form_in_line : (k : Kind) (text rest : List ℕ) → HasForm k text rest → line_feeds text ≡ 0
form_in_line Word text rest form = word_in_line text rest form
form_in_line Curie text rest form = curie_in_line text rest form
form_in_line Local text rest form = rw form.is (names_in_line (form.first ∷ form.more) rest form.names)
form_in_line Var text rest form = rw form.is (names_in_line (form.first ∷ form.more) rest form.names)
form_in_line Int text rest form = int_in_line text rest form
form_in_line Str text rest form = string_in_line text form
form_in_line Iri text rest form = iri_in_line text form
form_in_line Open text rest form = rw form refl
form_in_line Close text rest form = rw form refl
form_in_line OpenSquare text rest form = rw form refl
form_in_line CloseSquare text rest form = rw form refl
form_in_line Equal text rest form = rw form refl
form_in_line Hash text rest form = rw form refl
form_in_line HashHash text rest form = rw form refl
form_in_line Arrow text rest form = rw form refl
form_in_line Carets text rest form = rw form refl

-- a token has no line feed
pub lexeme_in_line : (text : List ℕ) (k : Kind) (n : ℕ) → piece_at text ≡ Lexeme k n → line_feeds (take n text) ≡ 0
lexeme_in_line text k n is =
    let at = piece_splits k n text is in
    rw (split_front k n text at) (form_in_line k at.front at.rest at.form)
