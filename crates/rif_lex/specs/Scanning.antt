-- Words of private clauses. No public clause cites this module.
use Rattle.std.specs.Prelude.{◌≡◌, ℕ, ◌+◌, ◌≤◌, List, Ok, Err}
use Rattle.std.specs.declared.result.Result.{Result}
use Rattle.rif_refusals.specs.declared.refusal.Refusal.{Refusal}
use Rattle.rif_refusals.specs.declared.fault.Fault.{Fault}
use Rattle.rif_refusals.specs.declared.fault.Fault.TheVariants.{Refused, OutOfMemory}
use Rattle.rif_lex.specs.declared.token.Token.{Token}
use Rattle.rif_lex.specs.declared.piece.Piece.{Piece}
use Rattle.rif_lex.specs.declared.piece.Piece.TheVariants.{Unreadable, Blank, Lexeme}
use Rattle.rif_lex.specs.declared.place.Place.{Place}
use Rattle.rif_lex.specs.Lexing.{with_front}

-- a piece has at least one byte, and lies within so many
abbrev pub FitsIn : Piece → ℕ → Type 0
FitsIn Unreadable n = Unit {0}
FitsIn (Blank end) n = (1 ≤ end) × (end ≤ n)
FitsIn (Lexeme kind end) n = (1 ≤ end) × (end ≤ n)

-- lines and columns are at most one more than the bytes before
pub record IsCounted (p : Place) : Type 0 where
  pub line : p.line ≤ p.offset + 1
  pub col : p.col ≤ p.offset + 1

-- a call put the tokens that are given behind those before, or answers their refusal, unless memory ran out
abbrev pub PutsTokens : {T : Type 0} → Result T Fault → List Token → List Token → Result (List Token) Refusal → Type 0
PutsTokens (Ok done) before now given = with_front before given ≡ Ok now
PutsTokens (Err (Refused refusal)) before now given = given ≡ Err refusal
PutsTokens (Err OutOfMemory) before now given = Unit {0}

-- a call tells that an input leads to what its text leads to, or answers the input's refusal
abbrev pub IsTextFor : {T : Type 0} → Result T Fault → Result (List Token) Refusal → Result (List Token) Refusal →
    Type 0
IsTextFor (Ok done) input text = input ≡ text
IsTextFor (Err (Refused refusal)) input text = input ≡ Err refusal
IsTextFor (Err OutOfMemory) input text = Unit {0}
