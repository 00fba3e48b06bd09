-- The line and the column of a token, and of the end.
use Rattle.std.proofs.Common.{◌≡◌, ◌<◌, ◌≤◌, ℕ, zero, suc, List, [], ◌∷◌, length, get_or, refl, arith}
use Rattle.rif_lex.specs.declared.token.Token.{Token}
use Rattle.rif_lex.specs.Places.{first_place, place_past}
use Rattle.prd_leaves.specs.Documents.{column_of, line_of}

pub line_of_token : (bytes : List ℕ) (ts : List Token) (i : ℕ) (d : Token) → i < length ts →
    (get_or ts i d).line ≡ line_of bytes ts i
line_of_token bytes [] i d inside = absurd (omega arith)
line_of_token bytes (t ∷ ts) zero d inside = refl
line_of_token bytes (t ∷ ts) (suc i) d inside = line_of_token bytes ts i d (omega arith)

pub column_of_token : (bytes : List ℕ) (ts : List Token) (i : ℕ) (d : Token) → i < length ts →
    (get_or ts i d).col ≡ column_of bytes ts i
column_of_token bytes [] i d inside = absurd (omega arith)
column_of_token bytes (t ∷ ts) zero d inside = refl
column_of_token bytes (t ∷ ts) (suc i) d inside = column_of_token bytes ts i d (omega arith)

pub line_of_end : (bytes : List ℕ) (ts : List Token) (i : ℕ) → length ts ≤ i →
    (place_past first_place bytes).line ≡ line_of bytes ts i
line_of_end bytes [] i behind = refl
line_of_end bytes (t ∷ ts) zero behind = absurd (omega arith)
line_of_end bytes (t ∷ ts) (suc i) behind = line_of_end bytes ts i (omega arith)

pub column_of_end : (bytes : List ℕ) (ts : List Token) (i : ℕ) → length ts ≤ i →
    (place_past first_place bytes).col ≡ column_of bytes ts i
column_of_end bytes [] i behind = refl
column_of_end bytes (t ∷ ts) zero behind = absurd (omega arith)
column_of_end bytes (t ∷ ts) (suc i) behind = column_of_end bytes ts i (omega arith)
