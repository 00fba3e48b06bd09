-- The piece of text that begins at a place: a token, white space, an annotation, or nothing that can be read.
-- Source: the project's own (docs/FORMATS.md, "Tokens").
use Rattle.std.specs.Prelude.{ℕ, ◌+◌, ◌==◌, ◌||◌, if◌then◌else◌, List, [], ◌∷◌, suc, Some, None, drop}
use Rattle.std.specs.declared.option.Option.{Option}
use Rattle.rif_lex.specs.declared.class.Class.{Class}
use Rattle.rif_lex.specs.declared.class.Class.TheVariants.{White, Letter, Zero, Digit, Underscore, Minus, Question}
use Rattle.rif_lex.specs.declared.class.Class.TheVariants.{Quote, Less, Open, Close, OpenSquare, CloseSquare, Equal}
use Rattle.rif_lex.specs.declared.class.Class.TheVariants.{Hash, Caret, Other}
use Rattle.rif_lex.specs.declared.token.Kind.{Kind}
use Rattle.rif_lex.specs.declared.token.Kind.TheVariants.{Word, Curie, Local, Var, Int, Str, Iri, Open as OpenToken}
use Rattle.rif_lex.specs.declared.token.Kind.TheVariants.{Close as CloseToken, OpenSquare as OpenSquareToken}
use Rattle.rif_lex.specs.declared.token.Kind.TheVariants.{CloseSquare as CloseSquareToken, Equal as EqualToken}
use Rattle.rif_lex.specs.declared.token.Kind.TheVariants.{Hash as HashToken, HashHash, Arrow, Carets}
use Rattle.rif_lex.specs.declared.piece.Piece.{Piece}
use Rattle.rif_lex.specs.declared.piece.Piece.TheVariants.{Unreadable, Blank, Lexeme}
use Rattle.rif_lex.specs.Characters.{class_at, begins, begins_two, begins_name, begins_number, is_name, is_digit}
use Rattle.rif_lex.specs.Characters.{is_escape, is_inside_iri}

-- how many bytes of name characters the text begins with
abbrev pub name_length : List ℕ → ℕ
name_length [] = 0
name_length (b ∷ bs) = if is_name (class_at b) bs then suc (name_length bs) else 0

-- how many digits the text begins with
abbrev pub digits_length : List ℕ → ℕ
digits_length [] = 0
digits_length (b ∷ bs) = if is_digit (class_at b) then suc (digits_length bs) else 0

-- a length and so many bytes more
abbrev pub longer : ℕ → Option ℕ → Option ℕ
longer n None = None
longer n (Some m) = Some (n + m)

abbrev mutual
  -- behind an opening `"`: the characters and escapes of the string with its closing `"`, if one closes it in its
  -- line
  pub string_length : List ℕ → Option ℕ
  string_length [] = None
  string_length (b ∷ bs) =
      if b == 34 then Some 1
      else (if b == 10 then None
      else (if b == 92 then longer 1 (escaped_length bs)
      else longer 1 (string_length bs)))

  -- the same behind a `\` inside a string
  pub escaped_length : List ℕ → Option ℕ
  escaped_length [] = None
  escaped_length (b ∷ bs) = if is_escape b then longer 1 (string_length bs) else None

-- behind a `<`: the characters of the IRI with its `>`
abbrev pub iri_length : List ℕ → Option ℕ
iri_length [] = None
iri_length (b ∷ bs) = if b == 62 then Some 1 else (if is_inside_iri b then longer 1 (iri_length bs) else None)

-- behind a `(*`: all up to the first `*)`, with it
abbrev pub annotation_length : List ℕ → Option ℕ
annotation_length [] = None
annotation_length (b ∷ bs) = if begins_two 42 41 (b ∷ bs) then Some 2 else longer 1 (annotation_length bs)

abbrev pub token_to : Kind → Option ℕ → Piece
token_to kind None = Unreadable
token_to kind (Some end) = Lexeme kind end

abbrev pub blank_to : Option ℕ → Piece
blank_to None = Unreadable
blank_to (Some end) = Blank end

-- a sign, and a name of at least one character behind it
abbrev pub named : Kind → ℕ → Piece
named kind n = if n == 0 then Unreadable else Lexeme kind (1 + n)

-- letters up to the end, and what follows them
abbrev pub word_to : ℕ → List ℕ → Piece
word_to end text =
    if begins 58 (drop end text) then Lexeme Curie (end + 1 + name_length (drop (end + 1) text)) else Lexeme Word end

-- digits up to the end, directly followed by no name character and no `:`
abbrev pub integer_to : ℕ → List ℕ → Piece
integer_to end text = if begins_name (drop end text) || begins 58 (drop end text) then Unreadable else Lexeme Int end

-- the piece at the front of a text whose first byte has the class
abbrev pub piece_of : Class → List ℕ → Piece
piece_of White text = Blank 1
piece_of Letter text = word_to (1 + name_length (drop 1 text)) text
piece_of Zero text = integer_to 1 text
piece_of Digit text = integer_to (1 + digits_length (drop 1 text)) text
piece_of Underscore text = named Local (name_length (drop 1 text))
piece_of Minus text =
    if begins 62 (drop 1 text) then Lexeme Arrow 2
    else (if begins_number (drop 1 text) then integer_to (1 + digits_length (drop 1 text)) text else Unreadable)
piece_of Question text = named Var (name_length (drop 1 text))
piece_of Quote text = token_to Str (longer 1 (string_length (drop 1 text)))
piece_of Less text = token_to Iri (longer 1 (iri_length (drop 1 text)))
piece_of Open text =
    if begins 42 (drop 1 text) then blank_to (longer 2 (annotation_length (drop 2 text))) else Lexeme OpenToken 1
piece_of Close text = Lexeme CloseToken 1
piece_of OpenSquare text = Lexeme OpenSquareToken 1
piece_of CloseSquare text = Lexeme CloseSquareToken 1
piece_of Equal text = Lexeme EqualToken 1
piece_of Hash text = if begins 35 (drop 1 text) then Lexeme HashHash 2 else Lexeme HashToken 1
piece_of Caret text = if begins 94 (drop 1 text) then Lexeme Carets 2 else Unreadable
piece_of Other text = Unreadable

-- the piece at the front of a text
abbrev pub piece_at : List ℕ → Piece
piece_at [] = Unreadable
piece_at (b ∷ bs) = piece_of (class_at b) (b ∷ bs)
