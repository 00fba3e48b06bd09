-- The lines of a text, one after another.
use Rattle.std.proofs.Common.{◌≡◌, ◌≢◌, ◌<◌, ◌-◌, length-drop, ◌∙◌, sym, ap, refl, ℕ, ◌+◌, ◌==◌, ◌≤◌, subst, arith}
use Rattle.std.proofs.Common.{suc, Bool, true, false, cond, List, [], ◌∷◌, ◌++◌, append_assoc, take, drop, length}
use Rattle.std.proofs.Math.Seq.{take-add}
use Rattle.std.proofs.lemmas.List.{drop-drop, length-take, take_all}
use Rattle.rif_script.specs.Jobs.{document_text, is_separator, lines_before, lines_of, script_lines, with_byte}
use Rattle.rif_script.specs.ReadingLines.{line_length}

-- a text's lines from its first byte on, where the first line isn't that byte alone
longer_line : (b : ℕ) (bs : List ℕ) →
    (bs ≢ [] → lines_of bs ≡ take (line_length bs) bs ∷ lines_of (drop (line_length bs) bs)) →
    with_byte b (lines_of bs) ≡ (b ∷ take (line_length bs) bs) ∷ lines_of (drop (line_length bs) bs)
longer_line b [] more = refl
longer_line b (c ∷ cs) more = ap (with_byte b) (more (λ none. cc))

pub first_of_lines : (text : List ℕ) → text ≢ [] →
    lines_of text ≡ take (line_length text) text ∷ lines_of (drop (line_length text) text)
first_of_lines [] some_ = absurd (some_ refl)
first_of_lines (b ∷ bs) some_ =
    elim (b == 10) as (λ (is : Bool). cond is ((b ∷ []) ∷ lines_of bs) (with_byte b (lines_of bs))
    ≡ take (cond is 1 (suc (line_length bs))) (b ∷ bs)
    ∷ lines_of (drop (cond is 1 (suc (line_length bs))) (b ∷ bs))) [
      | true ↦ refl
      | false ↦ longer_line b bs (first_of_lines bs)
    ]

pub line_within : (text : List ℕ) → line_length text ≤ length text
line_within [] = omega arith
line_within (b ∷ bs) = let more = line_within bs in
    elim (b == 10) as (λ (is : Bool). cond is 1 (suc (line_length bs)) ≤ suc (length bs)) [
      | true ↦ omega arith
      | false ↦ omega arith
    ]

pub line_is_long : (text : List ℕ) → length (take (line_length text) text) ≡ line_length text
line_is_long text = let within = line_within text in omega (arith, length-take (line_length text) text)

pub line_grows : (text : List ℕ) → text ≢ [] → 1 ≤ line_length text
line_grows [] some_ = absurd (some_ refl)
line_grows (b ∷ bs) some_ = elim (b == 10) as (λ (is : Bool). 1 ≤ cond is 1 (suc (line_length bs))) [
  | true ↦ omega arith
  | false ↦ omega arith
]

-- where the first line isn't `%%`, the document has it, and the script is that of what stands behind
pub document_goes_on : (text : List ℕ) → text ≢ [] → is_separator (take (line_length text) text) ≡ false →
    document_text text ≡ take (line_length text) text ++ document_text (drop (line_length text) text)
document_goes_on text some_ other = rw (first_of_lines text some_, other) refl

pub script_goes_on : (text : List ℕ) → text ≢ [] → is_separator (take (line_length text) text) ≡ false →
    script_lines text ≡ script_lines (drop (line_length text) text)
script_goes_on text some_ other = rw (first_of_lines text some_, other) refl

-- where it is, the document ends, and the script is all behind it
pub document_ends : (text : List ℕ) → text ≢ [] → is_separator (take (line_length text) text) ≡ true →
    document_text text ≡ []
document_ends text some_ here = rw (first_of_lines text some_, here) refl

pub script_begins : (text : List ℕ) → text ≢ [] → is_separator (take (line_length text) text) ≡ true →
    script_lines text ≡ lines_of (drop (line_length text) text)
script_begins text some_ here = rw (first_of_lines text some_, here) refl

-- how many lines stand before it
pub no_lines_before : (text : List ℕ) → text ≢ [] → is_separator (take (line_length text) text) ≡ true →
    lines_before (lines_of text) ≡ 0
no_lines_before text some_ here = rw (first_of_lines text some_, here) refl

one_line_before : (text : List ℕ) → text ≢ [] → is_separator (take (line_length text) text) ≡ false →
    lines_before (lines_of text) ≡ suc (lines_before (lines_of (drop (line_length text) text)))
one_line_before text some_ other = rw (first_of_lines text some_, other) refl

pub count_so_far : (at n count : ℕ) (text : List ℕ) → n ≡ line_length (drop at text) → drop at text ≢ [] →
    is_separator (take (line_length (drop at text)) (drop at text)) ≡ false →
    lines_before (lines_of text) ≡ count + lines_before (lines_of (drop at text)) →
    lines_before (lines_of text) ≡ (count + 1) + lines_before (lines_of (drop (at + n) text))
count_so_far at n count text is some_ other before =
    let k = line_length (drop at text) in
    let more : lines_before (lines_of (drop at text)) ≡ suc (lines_before (lines_of (drop (at + k) text))) =
    one_line_before (drop at text) some_ other
    ∙ ap (λ (xs : List ℕ). suc (lines_before (lines_of xs))) (drop-drop k at text) in
    let all : lines_before (lines_of text) ≡ (count + 1) + lines_before (lines_of (drop (at + k) text)) =
    omega (arith, before, more) in
    subst (λ (m : ℕ). lines_before (lines_of text) ≡ (count + 1) + lines_before (lines_of (drop (at + m) text)))
    (sym is) all

-- the same, for what is left of a text behind so many bytes
pub document_so_far : (at n : ℕ) (text : List ℕ) → n ≡ line_length (drop at text) → drop at text ≢ [] →
    is_separator (take (line_length (drop at text)) (drop at text)) ≡ false →
    document_text text ≡ take at text ++ document_text (drop at text) →
    document_text text ≡ take (at + n) text ++ document_text (drop (at + n) text)
document_so_far at n text is some_ other before =
    let k = line_length (drop at text) in
    let more : document_text (drop at text) ≡ take k (drop at text) ++ document_text (drop (at + k) text) =
    document_goes_on (drop at text) some_ other
    ∙ ap (λ (xs : List ℕ). take k (drop at text) ++ document_text xs) (drop-drop k at text) in
    let all : document_text text ≡ take (at + k) text ++ document_text (drop (at + k) text) =
    before ∙ (ap (λ (xs : List ℕ). take at text ++ xs) more
    ∙ (sym (append_assoc (take at text) (take k (drop at text)) (document_text (drop (at + k) text)))
    ∙ ap (λ (xs : List ℕ). xs ++ document_text (drop (at + k) text)) (sym (take-add at k text)))) in
    subst (λ (m : ℕ). document_text text ≡ take (at + m) text ++ document_text (drop (at + m) text)) (sym is) all

pub script_so_far : (at n : ℕ) (text : List ℕ) → n ≡ line_length (drop at text) → drop at text ≢ [] →
    is_separator (take (line_length (drop at text)) (drop at text)) ≡ false →
    script_lines text ≡ script_lines (drop at text) → script_lines text ≡ script_lines (drop (at + n) text)
script_so_far at n text is some_ other before =
    let k = line_length (drop at text) in
    let all : script_lines text ≡ script_lines (drop (at + k) text) =
    before ∙ (script_goes_on (drop at text) some_ other ∙ ap script_lines (drop-drop k at text)) in
    subst (λ (m : ℕ). script_lines text ≡ script_lines (drop (at + m) text)) (sym is) all

pub some_left : (at : ℕ) (text : List ℕ) → at < length text → drop at text ≢ []
some_left at text low none = let size = length-drop at text in let zero_ : length (drop at text) ≡ 0 =
    ap length none in omega (arith, size, zero_)

pub line_fits : (at n : ℕ) (text : List ℕ) → at < length text → n ≡ line_length (drop at text) → at + n ≤ length text
line_fits at n text low is = let size = length-drop at text in let within =
    line_within (drop at text) in omega (arith, size, within, is)

-- what is left of a text, as a slice of it
pub rest_of : (at : ℕ) (text : List ℕ) → take (length text - at) (drop at text) ≡ drop at text
rest_of at text = take_all (length text - at) (drop at text) (omega (arith, length-drop at text))

pub line_of : (at : ℕ) (text line : List ℕ) →
    line ≡ take (line_length (take (length text - at) (drop at text))) (take (length text - at) (drop at text)) →
    line ≡ take (line_length (drop at text)) (drop at text)
line_of at text line is = subst (λ (xs : List ℕ). line ≡ take (line_length xs) xs) (rest_of at text) is

pub behind_of : (at : ℕ) (text behind : List ℕ) →
    behind ≡ drop (line_length (take (length text - at) (drop at text))) (take (length text - at) (drop at text)) →
    behind ≡ drop (line_length (drop at text)) (drop at text)
behind_of at text behind is = subst (λ (xs : List ℕ). behind ≡ drop (line_length xs) xs) (rest_of at text) is
