-- A text in which no line begins with `%` is its document whole, and has no script.
use Rattle.std.proofs.Common.{◌≡◌, ◌∙◌, refl, ap, ℕ, ◌==◌, ◌&&◌, not, Bool, true, false, cond, List, [], ◌∷◌, ◌++◌}
use Rattle.std.proofs.lemmas.Bool.{not-true}
use Rattle.std.specs.List.{AllByRecursion}
use Rattle.rif_lex.proofs.CallerLemmas.{both}
use Rattle.rif_script.specs.Jobs.{document_text, is_separator, joined_before, lines_behind, lines_of, script_lines}
use Rattle.rif_script.specs.Jobs.{with_byte}

-- no line of a text begins with `%`, where a line begins at its front, or has begun before it
abbrev pub is_plain : Bool → List ℕ → Bool
is_plain begins [] = true
is_plain begins (b ∷ bs) = not (begins && b == 37) && is_plain (b == 10) bs

abbrev AreNoSeparators : List (List ℕ) → Type 0
AreNoSeparators = AllByRecursion (λ line. is_separator line ≡ false)

-- the lines that begin in a text
abbrev lines_begun : Bool → List (List ℕ) → List (List ℕ)
lines_begun true lines = lines
lines_begun false [] = []
lines_begun false (line ∷ lines) = lines

no_separator : (b : ℕ) (bs : List ℕ) → not (true && b == 37) ≡ true → is_separator (b ∷ bs) ≡ false
no_separator b bs plain = rw (not-true (b == 37) plain) refl

none_with_byte : (begins : Bool) (b : ℕ) (lines : List (List ℕ)) → not (begins && b == 37) ≡ true →
    AreNoSeparators (lines_begun false lines) → AreNoSeparators (lines_begun begins (with_byte b lines))
none_with_byte true b [] plain none = (no_separator b [] plain, tt)
none_with_byte true b (line ∷ lines) plain none = (no_separator b line plain, none)
none_with_byte false b [] plain none = tt
none_with_byte false b (line ∷ lines) plain none = none

none_behind : (begins : Bool) (b : ℕ) (lines : List (List ℕ)) → not (begins && b == 37) ≡ true →
    AreNoSeparators lines → AreNoSeparators (lines_begun begins ((b ∷ []) ∷ lines))
none_behind true b lines plain none = (no_separator b [] plain, none)
none_behind false b lines plain none = none

none_begun : (text : List ℕ) (begins : Bool) → is_plain begins text ≡ true →
    AreNoSeparators (lines_begun begins (lines_of text))
none_begun [] true plain = tt
none_begun [] false plain = tt
none_begun (b ∷ bs) begins plain =
    let parts = both (not (begins && b == 37)) (is_plain (b == 10) bs) plain in
    elim (b == 10) as (λ (is : Bool). is_plain is bs ≡ true →
    AreNoSeparators (lines_begun begins (cond is ((b ∷ []) ∷ lines_of bs) (with_byte b (lines_of bs))))) [
      | true ↦ λ more. none_behind begins b (lines_of bs) parts.0 (none_begun bs true more)
      | false ↦ λ more. none_with_byte begins b (lines_of bs) parts.0 (none_begun bs false more)
    ] parts.1

-- lines that are no separators, one behind another
abbrev lines_text : List (List ℕ) → List ℕ
lines_text [] = []
lines_text (line ∷ lines) = line ++ lines_text lines

with_byte_text : (b : ℕ) (lines : List (List ℕ)) → lines_text (with_byte b lines) ≡ b ∷ lines_text lines
with_byte_text b [] = refl
with_byte_text b (line ∷ lines) = refl

lines_are_text : (text : List ℕ) → lines_text (lines_of text) ≡ text
lines_are_text [] = refl
lines_are_text (b ∷ bs) =
    let more = ap (λ (xs : List ℕ). b ∷ xs) (lines_are_text bs) in
    elim (b == 10) as
    (λ (is : Bool). lines_text (cond is ((b ∷ []) ∷ lines_of bs) (with_byte b (lines_of bs))) ≡ b ∷ bs) [
      | true ↦ more
      | false ↦ with_byte_text b (lines_of bs) ∙ more
    ]

all_before : (lines : List (List ℕ)) → AreNoSeparators lines → joined_before lines ≡ lines_text lines
all_before [] none = refl
all_before (line ∷ lines) none = rw none.0 (ap (λ (xs : List ℕ). line ++ xs) (all_before lines none.1))

nothing_behind : (lines : List (List ℕ)) → AreNoSeparators lines → lines_behind lines ≡ []
nothing_behind [] none = refl
nothing_behind (line ∷ lines) none = rw none.0 (nothing_behind lines none.1)

pub document_is_whole : (text : List ℕ) → is_plain true text ≡ true → document_text text ≡ text
document_is_whole text plain = all_before (lines_of text) (none_begun text true plain) ∙ lines_are_text text

pub script_is_empty : (text : List ℕ) → is_plain true text ≡ true → script_lines text ≡ []
script_is_empty text plain = nothing_behind (lines_of text) (none_begun text true plain)
