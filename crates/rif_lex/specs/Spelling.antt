-- Tokens by their kinds and texts, and as they are written one behind another.
-- Source: the project's own (docs/FORMATS.md, "Tokens").
use Rattle.std.specs.Prelude.{◌≡◌, ◌↔◌, ℕ, ◌-◌, ◌&&◌, not, Bool, true, List, [], ◌∷◌, ◌++◌, length, take, drop, map}
use Rattle.std.specs.Prelude.{All, Ok, IsUtf8}
use Rattle.rif_lex.specs.declared.token.Kind.{Kind}
use Rattle.rif_lex.specs.declared.token.Kind.TheVariants.{Word, Curie, Local, Var, Int, Open, Hash}
use Rattle.rif_lex.specs.declared.token.Token.{Token}
use Rattle.rif_lex.specs.declared.piece.Piece.TheVariants.{Lexeme}
use Rattle.rif_lex.specs.Characters.{begins, begins_name}
use Rattle.rif_lex.specs.Pieces.{piece_at}
use Rattle.rif_lex.specs.Places.{line_feeds}
use Rattle.rif_lex.specs.Lexing.{tokens_of}
use Rattle.rif_lex.specs.Forms.{HasForm}

-- a token's kind and text
pub record Written : Type 0 where
  pub kind : Kind
  pub text : List ℕ

-- a token of a text by its kind and the slice of its span
abbrev pub written : List ℕ → Token → Written
written bytes t = record { kind = t.kind; text = take (t.end - t.start) (drop t.start bytes) }

-- the text alone is one token of the kind
abbrev pub IsToken : Written → Type 0
IsToken w = piece_at w.text ≡ Lexeme w.kind (length w.text)

-- Law: the slice of a token's span is, alone, one token of its kind, and stands in one line.
abbrev pub SlicesAreTokens : Type 0
SlicesAreTokens = (text : List ℕ) (ts : List Token) → tokens_of text ≡ Ok ts →
    All (λ t. IsToken (written text t) × (line_feeds (written text t).text ≡ 0)) ts

-- Law: in a text of UTF-8 the slice of each token's span is UTF-8.
abbrev pub SlicesAreTexts : Type 0
SlicesAreTexts = (text : List ℕ) (ts : List Token) → IsUtf8 text → tokens_of text ≡ Ok ts →
    All (λ t. IsUtf8 (written text t).text) ts

-- Law: a text is, alone, one token of a kind exactly where it has the kind's form, with nothing behind it.
abbrev pub FormsAreTokens : Type 0
FormsAreTokens = (kind : Kind) (text : List ℕ) →
    IsToken (record { kind = kind; text = text }) ↔ HasForm kind text []

-- what stands between two tokens
pub data Gap : Type 0 where
  joined : Gap
  space : Gap
  line_feed : Gap

abbrev pub gap_text : Gap → List ℕ
gap_text joined = []
gap_text space = 32 ∷ []
gap_text line_feed = 10 ∷ []

-- a token, and what stands behind it
pub record Spelled : Type 0 where
  pub token : Written
  pub gap : Gap

abbrev pub spelled_text : List Spelled → List ℕ
spelled_text [] = []
spelled_text (s ∷ ss) = s.token.text ++ (gap_text s.gap ++ spelled_text ss)

-- a name ends where no name character follows, nor a `>`, which would take a `-` away
abbrev pub ends_name : List ℕ → Bool
ends_name rest = not (begins_name rest) && not (begins 62 rest)

-- a token of the kind ends where this follows
abbrev pub ends_before : Kind → List ℕ → Bool
ends_before Word rest = ends_name rest && not (begins 58 rest)
ends_before Curie rest = ends_name rest
ends_before Local rest = ends_name rest
ends_before Var rest = ends_name rest
ends_before Int rest = not (begins_name rest) && not (begins 58 rest)
ends_before Open rest = not (begins 42 rest)
ends_before Hash rest = not (begins 35 rest)
ends_before _ rest = true

-- each is a token that ends before what follows it
abbrev pub AreSeparate : List Spelled → Type 0
AreSeparate [] = Unit {0}
AreSeparate (s ∷ ss) =
    IsToken s.token × (ends_before s.token.kind (gap_text s.gap ++ spelled_text ss) ≡ true) × AreSeparate ss

-- Law: tokens that are written one behind another, each where it ends, are the tokens of that text.
abbrev pub SpelledIsLexed : Type 0
SpelledIsLexed = (ss : List Spelled) → AreSeparate ss → (ts : List Token) ×
    (tokens_of (spelled_text ss) ≡ Ok ts) × (map (written (spelled_text ss)) ts ≡ map (λ s. s.token) ss)
