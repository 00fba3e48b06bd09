-- What an input leads to: all its tokens, in order and to its end, or the first refusal that stands.
-- Source: the project's own (docs/FORMATS.md, "Tokens").
use Rattle.std.specs.Prelude.{length, ◌≡◌, ◌≤◌, ◌<◌, ◌↔◌, IsUtf8, ℕ, ◌+◌, pred, nat_lt, if◌then◌else◌, List, [], ◌∷◌}
use Rattle.std.specs.Prelude.{◌++◌, suc, zero, Ok, Err}
use Rattle.std.specs.Str.{is_utf8, IsValidUpTo}
use Rattle.std.specs.Str.Lossy.{utf8_valid_len}
use Rattle.std.specs.declared.result.Result.{Result}
use Rattle.rif_refusals.specs.Limits.{most_input_bytes}
use Rattle.rif_refusals.specs.declared.refusal.Refusal.{Refusal}
use Rattle.rif_refusals.specs.declared.refusal.Refusal.TheVariants.{InputTooLong, NotUtf8, BadToken}
use Rattle.rif_refusals.specs.declared.fault.Fault.{Fault}
use Rattle.rif_refusals.specs.declared.fault.Fault.TheVariants.{Refused, OutOfMemory}
use Rattle.rif_lex.specs.declared.token.Kind.{Kind}
use Rattle.rif_lex.specs.declared.token.Token.{Token}
use Rattle.rif_lex.specs.declared.piece.Piece.TheVariants.{Unreadable, Blank, Lexeme}
use Rattle.rif_lex.specs.declared.place.Place.{Place}
use Rattle.rif_lex.specs.Pieces.{piece_at}
use Rattle.rif_lex.specs.Places.{place_after, first_place}

-- the token of so many bytes at a place
abbrev pub token_at : Kind → Place → ℕ → Token
token_at kind p n = record { kind = kind; start = p.offset; end = p.offset + n; line = p.line; col = p.col }

-- the tokens with some before them
abbrev pub with_front : List Token → Result (List Token) Refusal → Result (List Token) Refusal
with_front front (Ok ts) = Ok (front ++ ts)
with_front front (Err refusal) = Err refusal

-- the tokens of a text that begins at a place, where so many bytes still belong to the piece before
abbrev pub tokens_from : ℕ → Place → List ℕ → Result (List Token) Refusal
tokens_from inside p [] = Ok []
tokens_from (suc inside) p (b ∷ bs) = tokens_from inside (place_after p b) bs
tokens_from zero p (b ∷ bs) = elim (piece_at (b ∷ bs)) [
  | Unreadable ↦ Err (BadToken p.line p.col)
  | Blank n ↦ tokens_from (pred n) (place_after p b) bs
  | Lexeme kind n ↦ with_front (token_at kind p n ∷ []) (tokens_from (pred n) (place_after p b) bs)
]

-- the tokens of a text of UTF-8, or the place of the first piece that can't be read
abbrev pub tokens_of : List ℕ → Result (List Token) Refusal
tokens_of text = tokens_from 0 first_place text

-- the tokens of an input, or the first refusal that stands
abbrev pub lexed : List ℕ → Result (List Token) Refusal
lexed bytes =
    if nat_lt most_input_bytes (length bytes) then Err InputTooLong
    else (if is_utf8 bytes then tokens_of bytes else Err (NotUtf8 (utf8_valid_len bytes)))

-- a call answers what is given, unless memory ran out
abbrev pub Answers : {T : Type 0} → Result T Fault → Result T Refusal → Type 0
Answers (Ok x) given = given ≡ Ok x
Answers (Err (Refused refusal)) given = given ≡ Err refusal
Answers (Err OutOfMemory) given = Unit {0}

-- a call answers with a list that it was given, and that is now what is given, unless memory ran out
abbrev pub AnswersInto : {T : Type 0} → Result T Fault → List Token → Result (List Token) Refusal → Type 0
AnswersInto (Ok done) now given = given ≡ Ok now
AnswersInto (Err (Refused refusal)) now given = given ≡ Err refusal
AnswersInto (Err OutOfMemory) now given = Unit {0}

-- Law: an input has tokens exactly where it isn't too long, is UTF-8, and its text has these tokens.
pub record IsInput (bytes : List ℕ) (ts : List Token) : Type 0 where
  pub short : length bytes ≤ most_input_bytes
  pub utf8 : IsUtf8 bytes
  pub tokens : tokens_of bytes ≡ Ok ts

abbrev pub InputsAreTexts : Type 0
InputsAreTexts = (bytes : List ℕ) (ts : List Token) → (lexed bytes ≡ Ok ts) ↔ IsInput bytes ts

-- an input has the refusal: it is too long; else its longest front of UTF-8 ends at the byte; else its text has the
-- refusal
abbrev pub IsRefused : List ℕ → Refusal → Type 0
IsRefused bytes InputTooLong = most_input_bytes < length bytes
IsRefused bytes (NotUtf8 at) = (length bytes ≤ most_input_bytes) × IsValidUpTo bytes at
IsRefused bytes (BadToken line col) =
    (length bytes ≤ most_input_bytes) × IsUtf8 bytes × (tokens_of bytes ≡ Err (BadToken line col))
IsRefused bytes _ = ⊥

-- Law: an input leads to a refusal exactly where it has it, and so to no other than these three.
abbrev pub InputsAreRefused : Type 0
InputsAreRefused = (bytes : List ℕ) (refusal : Refusal) → (lexed bytes ≡ Err refusal) ↔ IsRefused bytes refusal
