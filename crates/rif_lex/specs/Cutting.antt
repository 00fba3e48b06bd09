-- How a text is cut into pieces, one behind another, and which tokens these are.
-- Source: the project's own (docs/FORMATS.md, "Tokens").
use Rattle.std.specs.Prelude.{◌≡◌, ◌↔◌, ℕ, ◌+◌, ◌≤◌, ◌<◌, List, [], ◌∷◌, length, drop, All, Ok, Err}
use Rattle.rif_refusals.specs.declared.refusal.Refusal.{Refusal}
use Rattle.rif_refusals.specs.declared.refusal.Refusal.TheVariants.{BadToken}
use Rattle.rif_lex.specs.declared.token.Token.{Token}
use Rattle.rif_lex.specs.declared.piece.Piece.{Piece}
use Rattle.rif_lex.specs.declared.piece.Piece.TheVariants.{Unreadable, Blank, Lexeme}
use Rattle.rif_lex.specs.Pieces.{piece_at}
use Rattle.rif_lex.specs.Places.{line_at, column_at}
use Rattle.rif_lex.specs.Lexing.{tokens_of}

-- how many bytes a piece has; what can't be read has none
abbrev pub piece_length : Piece → ℕ
piece_length Unreadable = 0
piece_length (Blank n) = n
piece_length (Lexeme kind n) = n

-- from one byte on up to another the text is these pieces
abbrev pub AreCut : List ℕ → ℕ → List Piece → ℕ → Type 0
AreCut text from [] to = from ≡ to
AreCut text from (p ∷ ps) to =
    (piece_at (drop from text) ≡ p) × (1 ≤ piece_length p) × AreCut text (from + piece_length p) ps to

-- the tokens among the pieces that stand from a byte on
abbrev pub tokens_among : List ℕ → ℕ → List Piece → List Token
tokens_among text from [] = []
tokens_among text from (Unreadable ∷ ps) = tokens_among text from ps
tokens_among text from (Blank n ∷ ps) = tokens_among text (from + n) ps
tokens_among text from (Lexeme kind n ∷ ps) =
    record { kind = kind; start = from; end = from + n; line = line_at text from; col = column_at text from }
    ∷ tokens_among text (from + n) ps

-- the text is cut into pieces to its end, and the tokens are those among them
pub record IsCut (text : List ℕ) (ts : List Token) : Type 0 where
  pub pieces : List Piece
  pub cut : AreCut text 0 pieces (length text)
  pub tokens : ts ≡ tokens_among text 0 pieces

-- Law: a text has these tokens exactly where it is cut into pieces to its end, and the tokens are those among them.
abbrev pub TokensAreCut : Type 0
TokensAreCut = (text : List ℕ) (ts : List Token) → (tokens_of text ≡ Ok ts) ↔ IsCut text ts

-- the refusal stands at the first place that can't be read: all before it is cut into pieces, and no piece begins
-- there
pub record IsFirstUnreadable (text : List ℕ) (refusal : Refusal) : Type 0 where
  pub at : ℕ
  pub within : at < length text
  pub pieces : List Piece
  pub cut : AreCut text 0 pieces at
  pub unreadable : piece_at (drop at text) ≡ Unreadable
  pub is : refusal ≡ BadToken (line_at text at) (column_at text at)

-- Law: a text has this refusal exactly where it stands at the first place that can't be read.
abbrev pub BadTokenIsFirst : Type 0
BadTokenIsFirst = (text : List ℕ) (refusal : Refusal) →
    (tokens_of text ≡ Err refusal) ↔ IsFirstUnreadable text refusal

-- from one byte on up to another: each token begins where the one before it ended or later, and has a byte at least
abbrev pub AreRising : ℕ → List Token → ℕ → Type 0
AreRising from [] to = from ≤ to
AreRising from (t ∷ ts) to = (from ≤ t.start) × (t.start < t.end) × AreRising t.end ts to

-- Law: the spans of tokens rise, and lie within the text.
abbrev pub SpansRise : Type 0
SpansRise = (text : List ℕ) (ts : List Token) → tokens_of text ≡ Ok ts → AreRising 0 ts (length text)

-- Law: a token's line and column are those of its first character.
abbrev pub TokensArePlaced : Type 0
TokensArePlaced = (text : List ℕ) (ts : List Token) → tokens_of text ≡ Ok ts →
    All (λ t. (t.line ≡ line_at text t.start) × (t.col ≡ column_at text t.start)) ts

-- Law: there are at most as many tokens as bytes.
abbrev pub FewTokens : Type 0
FewTokens = (text : List ℕ) (ts : List Token) → tokens_of text ≡ Ok ts → length ts ≤ length text
