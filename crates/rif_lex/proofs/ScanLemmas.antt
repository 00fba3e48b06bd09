-- Scanning goes on from place to place.
use Rattle.std.proofs.Common.{◌≡◌, ℕ, ◌+◌, ◌<◌, ◌≤◌, List, [], ◌∷◌, length, drop, refl, ap, ◌∙◌, sym, arith, true}
use Rattle.std.proofs.Common.{false, Some, None, get_or}
use Rattle.std.proofs.lemmas.List.{drop-drop, drop_more, length-drop}
use Rattle.std.specs.declared.option.Option.{Option}
use Rattle.rif_lex.specs.Characters.{begins_two, begins_escape}
use Rattle.rif_lex.specs.Pieces.{longer, string_length, escaped_length, annotation_length}

pub longer-longer : (m n : ℕ) (o : Option ℕ) → longer m (longer n o) ≡ longer (m + n) o
longer-longer m n None = refl
longer-longer m n (Some k) = ap Some (omega arith)

annotation_step : (at : ℕ) (bs : List ℕ) → 1 ≤ length bs → begins_two 42 41 bs ≡ false →
    longer (at + 1) (annotation_length (drop 1 bs)) ≡ longer at (annotation_length bs)
annotation_step at [] some unclosed = absurd (omega arith)
annotation_step at (b ∷ bs) some unclosed = rw unclosed (sym (longer-longer at 1 (annotation_length bs)))

-- an annotation that isn't closed at a place goes on behind it
pub annotation_more : (at : ℕ) (text : List ℕ) → at < length text → begins_two 42 41 (drop at text) ≡ false →
    longer (at + 1) (annotation_length (drop (at + 1) text)) ≡ longer at (annotation_length (drop at text))
annotation_more at text within unclosed =
    rw (← drop-drop 1 at text) (annotation_step at (drop at text) (omega (arith, length-drop at text)) unclosed)

escape_step : (at : ℕ) (bs : List ℕ) → begins_escape bs ≡ true →
    longer (at + 2) (string_length (drop 1 bs)) ≡ longer at (longer 1 (escaped_length bs))
escape_step at [] escape = cc
escape_step at (b ∷ bs) escape =
    rw (escape, longer-longer 1 1 (string_length bs)) (sym (longer-longer at 2 (string_length bs)))

-- a string goes on behind an escape
pub escape_more : (at : ℕ) (text : List ℕ) → at < length text → get_or text at 0 ≡ 92 →
    begins_escape (drop (at + 1) text) ≡ true →
    longer (at + 2) (string_length (drop (at + 2) text)) ≡ longer at (string_length (drop at text))
escape_more at text within backslash escape =
    let far : drop 1 (drop (at + 1) text) ≡ drop (at + 2) text =
    drop-drop 1 (at + 1) text ∙ ap (λ (n : ℕ). drop n text) (omega arith) in
    rw (drop_more text at 0 within, backslash, ← far) (escape_step at (drop (at + 1) text) escape)
