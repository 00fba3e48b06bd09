-- The forms of tokens, as the table of tokens has them, each by what a text is put together from; and which of them
-- stands at the front of a text: the longest.
-- Source: the project's own (docs/FORMATS.md, "Tokens").
use Rattle.std.specs.Prelude.{◌≡◌, ◌⊎◌, ◌↔◌, ℕ, ◌+◌, ◌≤◌, ◌<◌, ◌==◌, ◌||◌, not, Bool, true, false, List, [], ◌∷◌}
use Rattle.std.specs.Prelude.{◌++◌, length, take, drop, codes}
use Rattle.std.specs.List.{flat_map, AllByRecursion}
use Rattle.rif_lex.specs.declared.class.Class.TheVariants.{White, Letter}
use Rattle.rif_lex.specs.declared.token.Kind.{Kind}
use Rattle.rif_lex.specs.declared.token.Kind.TheVariants.{Word, Curie, Local, Var, Int, Str, Iri, Open, Close}
use Rattle.rif_lex.specs.declared.token.Kind.TheVariants.{OpenSquare, CloseSquare, Equal, Hash, HashHash, Arrow}
use Rattle.rif_lex.specs.declared.token.Kind.TheVariants.{Carets}
use Rattle.rif_lex.specs.declared.piece.Piece.TheVariants.{Blank, Lexeme}
use Rattle.rif_lex.specs.Characters.{class_at, begins, begins_two, begins_name, is_name, is_digit, is_first_digit}
use Rattle.rif_lex.specs.Characters.{is_escape, is_inside_iri}
use Rattle.rif_lex.specs.Pieces.{piece_at}

-- all bytes are of name characters, where the rest follows
abbrev pub AreNames : List ℕ → List ℕ → Type 0
AreNames [] rest = Unit {0}
AreNames (b ∷ bs) rest = (is_name (class_at b) (bs ++ rest) ≡ true) × AreNames bs rest

-- a letter, then name characters
pub record IsWord (text rest : List ℕ) : Type 0 where
  pub first : ℕ
  pub more : List ℕ
  pub is : text ≡ first ∷ more
  pub letter : class_at first ≡ Letter
  pub names : AreNames more rest

-- a word, `:`, then name characters, possibly none
pub record IsCurie (text rest : List ℕ) : Type 0 where
  pub word : List ℕ
  pub more : List ℕ
  pub is : text ≡ word ++ 58 ∷ more
  pub is_word : IsWord word (58 ∷ more ++ rest)
  pub names : AreNames more rest

-- a sign, then at least one name character
pub record IsNamed (sign : ℕ) (text rest : List ℕ) : Type 0 where
  pub first : ℕ
  pub more : List ℕ
  pub is : text ≡ sign ∷ first ∷ more
  pub names : AreNames (first ∷ more) rest

-- a digit other than 0, then digits
pub record IsNumber (text : List ℕ) : Type 0 where
  pub first : ℕ
  pub more : List ℕ
  pub is : text ≡ first ∷ more
  pub first_digit : is_first_digit (class_at first) ≡ true
  pub digits : AllByRecursion (λ d. is_digit (class_at d) ≡ true) more

-- a part of a string: a character's byte, or an escape by what stands behind its `\`
pub data Part : Type 0 where
  plain : ℕ → Part
  escape : ℕ → Part

abbrev pub part_text : Part → List ℕ
part_text (plain b) = b ∷ []
part_text (escape b) = 92 ∷ b ∷ []

-- a bare `"`, `\` or line feed doesn't stand in a string
abbrev pub is_part : Part → Bool
is_part (plain b) = not (b == 34 || b == 10 || b == 92)
is_part (escape b) = is_escape b

pub record IsString (text : List ℕ) : Type 0 where
  pub parts : List Part
  pub is : text ≡ 34 ∷ (flat_map part_text parts ++ 34 ∷ [])
  pub fit : AllByRecursion (λ p. is_part p ≡ true) parts

pub record IsIri (text : List ℕ) : Type 0 where
  pub inside : List ℕ
  pub is : text ≡ 60 ∷ (inside ++ 62 ∷ [])
  pub fit : AllByRecursion (λ b. is_inside_iri b ≡ true) inside

-- the text has the form of the kind, where the rest follows
abbrev pub HasForm : Kind → List ℕ → List ℕ → Type 0
HasForm Word text rest = IsWord text rest
HasForm Curie text rest = IsCurie text rest
HasForm Local text rest = IsNamed 95 text rest
HasForm Var text rest = IsNamed 63 text rest
HasForm Int text rest = (text ≡ codes "0") ⊎ (IsNumber text ⊎ ((ds : List ℕ) × (text ≡ 45 ∷ ds) × IsNumber ds))
HasForm Str text rest = IsString text
HasForm Iri text rest = IsIri text
HasForm Open text rest = text ≡ codes "("
HasForm Close text rest = text ≡ codes ")"
HasForm OpenSquare text rest = text ≡ codes "["
HasForm CloseSquare text rest = text ≡ codes "]"
HasForm Equal text rest = text ≡ codes "="
HasForm Hash text rest = text ≡ codes "#"
HasForm HashHash text rest = text ≡ codes "##"
HasForm Arrow text rest = text ≡ codes "->"
HasForm Carets text rest = text ≡ codes "^^"

-- an integer isn't directly followed by a name character or `:`, and `(*` begins an annotation
abbrev pub MayEnd : Kind → List ℕ → Type 0
MayEnd Int rest = (begins_name rest ≡ false) × (begins 58 rest ≡ false)
MayEnd Open rest = begins 42 rest ≡ false
MayEnd _ rest = Unit {0}

-- the first n bytes are the longest front that has a form, and what follows may follow it
pub record IsLongest (text : List ℕ) (kind : Kind) (n : ℕ) : Type 0 where
  pub within : n ≤ length text
  pub form : HasForm kind (take n text) (drop n text)
  pub longest : (k : Kind) (m : ℕ) → n < m → m ≤ length text → HasForm k (take m text) (drop m text) → ⊥
  pub ends : MayEnd kind (drop n text)

-- Law: the token at the front of a text is the longest that has a form there, and there is one exactly where it may
-- end.
abbrev pub TokensAreLongest : Type 0
TokensAreLongest = (text : List ℕ) (kind : Kind) (n : ℕ) → (piece_at text ≡ Lexeme kind n) ↔ IsLongest text kind n

-- the text has a `*)` in it
abbrev pub has_close : List ℕ → Bool
has_close [] = false
has_close (b ∷ bs) = begins_two 42 41 (b ∷ bs) || has_close bs

-- at the front of the text stands a character of white space
pub record IsWhiteSpace (text : List ℕ) (n : ℕ) : Type 0 where
  pub first : ℕ
  pub rest : List ℕ
  pub is : text ≡ first ∷ rest
  pub white : class_at first ≡ White
  pub one : n ≡ 1

-- at the front of the text stands an annotation: `(*`, and all up to the next `*)`
pub record IsAnnotation (text : List ℕ) (n : ℕ) : Type 0 where
  pub inside : List ℕ
  pub rest : List ℕ
  pub is : text ≡ 40 ∷ 42 ∷ (inside ++ 42 ∷ 41 ∷ rest)
  pub next : has_close (inside ++ 42 ∷ []) ≡ false
  pub long : n ≡ length inside + 4

-- Law: what is passed over at the front of a text is a character of white space, or an annotation.
abbrev pub BlanksAreWhite : Type 0
BlanksAreWhite = (text : List ℕ) (n : ℕ) → (piece_at text ≡ Blank n) ↔ (IsWhiteSpace text n ⊎ IsAnnotation text n)
