-- Where a text of UTF-8 is cut into pieces, each is UTF-8.
use Rattle.std.proofs.Common.{◌≡◌, ◌⊎◌, inl, inr, ℕ, ◌+◌, ◌-◌, ◌<◌, Bool, true, false, ◌||◌, nat_le, List, [], ◌∷◌}
use Rattle.std.proofs.Common.{◌++◌, length, take, drop, get_or, refl, ap, ◌∙◌, sym, subst, arith, IsUtf8}
use Rattle.std.proofs.Common.{append_assoc, length-append}
use Rattle.std.specs.List.{flat_map, AllByRecursion}
use Rattle.std.specs.Str.{IsCharBoundary}
use Rattle.std.proofs.lemmas.Bool.Decides.{nat_tests}
use Rattle.std.proofs.lemmas.List.{drop_at, take_at, drop-drop}
use Rattle.std.proofs.lemmas.List.Elements.{All-from_recursion}
use Rattle.std.proofs.lemmas.Str.{IsUtf8-take, IsUtf8-drop, IsCharBoundary-end, IsCharBoundary-before_ascii}
use Rattle.std.proofs.lemmas.Str.{IsCharBoundary-after_ascii}
use Rattle.rif_lex.specs.declared.class.Class.TheVariants.{White, Letter}
use Rattle.rif_lex.specs.declared.token.Kind.{Kind}
use Rattle.rif_lex.specs.declared.token.Kind.TheVariants.{Word, Curie, Local, Var, Int, Str, Iri, Open, Close}
use Rattle.rif_lex.specs.declared.token.Kind.TheVariants.{OpenSquare, CloseSquare, Equal, Hash, HashHash, Arrow}
use Rattle.rif_lex.specs.declared.token.Kind.TheVariants.{Carets}
use Rattle.rif_lex.specs.declared.token.Token.{Token}
use Rattle.rif_lex.specs.declared.piece.Piece.{Piece}
use Rattle.rif_lex.specs.declared.piece.Piece.TheVariants.{Unreadable, Blank, Lexeme}
use Rattle.rif_lex.specs.Characters.{class_at, begins_name, is_name}
use Rattle.rif_lex.specs.Pieces.{piece_at}
use Rattle.rif_lex.specs.Forms.{HasForm, part_text, IsWhiteSpace, IsAnnotation}
use Rattle.rif_lex.specs.Cutting.{AreCut, tokens_among}
use Rattle.rif_lex.specs.Spelling.{written, SlicesAreTexts}
use Rattle.rif_lex.proofs.FormLemmas.{CannotGoOn}
use Rattle.rif_lex.proofs.SplitLemmas.{piece_splits}
use Rattle.rif_lex.proofs.FollowLemmas.{split_front}
use Rattle.rif_lex.proofs.BlankLemmas.{blanks_are_white}
use Rattle.rif_lex.proofs.CuttingLemmas.{cut_of_tokens}

or_second : (s t : Bool) → t ≡ true → s || t ≡ true
or_second true t e = refl
or_second false t e = e

high_is_letter : (b : ℕ) → nat_le 128 b ≡ true → class_at b ≡ Letter
high_is_letter b high = rw (or_second _ (nat_le 128 b) high) refl

-- a byte that no letter has is one of ASCII
low_of_class : (b : ℕ) → (class_at b ≡ Letter → ⊥) → b < 128
low_of_class b other = elim (nat_le 128 b) as (λ v. nat_le 128 b ≡ v → b < 128) [
  | true ↦ λ high. absurd (other (high_is_letter b high))
  | false ↦ λ low. grind (arith, nat_tests)
] refl

-- a text may be cut between two parts where no name goes on, or behind a byte of ASCII
abbrev MayBeCut : List ℕ → List ℕ → Type 0
MayBeCut front rest = (begins_name rest ≡ false) ⊎ ((more : List ℕ) × (c : ℕ) × (front ≡ more ++ c ∷ []) × (c < 128))

at_seam : (more : List ℕ) (c : ℕ) (rest : List ℕ) → get_or (more ++ c ∷ rest) (length more) 0 ≡ c
at_seam [] c rest = refl
at_seam (b ∷ more) c rest = at_seam more c rest

before_name : (front rest : List ℕ) → begins_name rest ≡ false → IsCharBoundary (front ++ rest) (length front)
before_name front [] ends =
    subst (λ (n : ℕ). IsCharBoundary (front ++ []) n) (length-append front [] ∙ omega arith)
    (IsCharBoundary-end (front ++ []))
before_name front (b ∷ rest) ends =
    let low : b < 128 = low_of_class b (λ is. let f : is_name (class_at b) rest ≡ true = rw is refl in cc) in
    IsCharBoundary-before_ascii (front ++ b ∷ rest) (length front) (omega (arith, length-append front (b ∷ rest)))
    (subst (λ (c : ℕ). c < 128) (sym (at_seam front b rest)) low)

behind_low : (more : List ℕ) (c : ℕ) (rest : List ℕ) → IsUtf8 (more ++ c ∷ rest) → c < 128 →
    IsCharBoundary (more ++ c ∷ rest) (length more + 1)
behind_low more c rest utf8 low =
    IsCharBoundary-after_ascii (more ++ c ∷ rest) (length more) utf8 (omega (arith, length-append more (c ∷ rest)))
    (subst (λ (d : ℕ). d < 128) (sym (at_seam more c rest)) low)

boundary : (front rest : List ℕ) → IsUtf8 (front ++ rest) → MayBeCut front rest →
    IsCharBoundary (front ++ rest) (length front)
boundary front rest utf8 (inl ends) = before_name front rest ends
boundary front rest utf8 (inr low) =
    let whole : front ++ rest ≡ low.0 ++ low.1 ∷ rest =
    ap (λ (x : List ℕ). x ++ rest) low.2 ∙ append_assoc low.0 (low.1 ∷ []) rest in
    let long : length low.0 + 1 ≡ length front = omega (arith, ap length low.2, length-append low.0 (low.1 ∷ [])) in
    subst (λ (n : ℕ). IsCharBoundary (front ++ rest) n) long
    (subst (λ (x : List ℕ). IsCharBoundary x (length low.0 + 1)) (sym whole)
    (behind_low low.0 low.1 rest (subst IsUtf8 whole utf8) low.3))

pub cut_utf8 : (front rest : List ℕ) → IsUtf8 (front ++ rest) → MayBeCut front rest → IsUtf8 front × IsUtf8 rest
cut_utf8 front rest utf8 may =
    let at = boundary front rest utf8 may in (
      subst IsUtf8 (take_at front rest (length front) refl) (IsUtf8-take (front ++ rest) (length front) utf8 at),
      subst IsUtf8 (drop_at front rest (length front) refl) (IsUtf8-drop (front ++ rest) (length front) utf8 at),
    )

-- a token of a form ends where the text may be cut
token_ends : (k : Kind) (front rest : List ℕ) → HasForm k front rest → CannotGoOn k rest → MayBeCut front rest
token_ends Word front rest form stops = inl stops.0
token_ends Curie front rest form stops = inl stops
token_ends Local front rest form stops = inl stops
token_ends Var front rest form stops = inl stops
token_ends Int front rest form stops = inl stops.0
token_ends Str front rest form stops = inr (34 ∷ flat_map part_text form.parts, 34, form.is, omega arith)
token_ends Iri front rest form stops = inr (60 ∷ form.inside, 62, form.is, omega arith)
token_ends Open front rest form stops = inr ([], 40, form, omega arith)
token_ends Close front rest form stops = inr ([], 41, form, omega arith)
token_ends OpenSquare front rest form stops = inr ([], 91, form, omega arith)
token_ends CloseSquare front rest form stops = inr ([], 93, form, omega arith)
token_ends Equal front rest form stops = inr ([], 61, form, omega arith)
token_ends Hash front rest form stops = inr ([], 35, form, omega arith)
token_ends HashHash front rest form stops = inr (35 ∷ [], 35, form, omega arith)
token_ends Arrow front rest form stops = inr (45 ∷ [], 62, form, omega arith)
token_ends Carets front rest form stops = inr (94 ∷ [], 94, form, omega arith)

lexeme_utf8 : (k : Kind) (n : ℕ) (text : List ℕ) → piece_at text ≡ Lexeme k n → IsUtf8 text →
    IsUtf8 (take n text) × IsUtf8 (drop n text)
lexeme_utf8 k n text is utf8 =
    let at = piece_splits k n text is in
    let parts = cut_utf8 at.front at.rest (subst IsUtf8 at.whole utf8)
    (token_ends k at.front at.rest at.form at.stops) in
    let left : drop n text ≡ at.rest =
    ap (drop n) at.whole ∙ drop_at at.front at.rest n (sym at.long) in
    (subst IsUtf8 (sym (split_front k n text at)) parts.0, subst IsUtf8 (sym left) parts.1)

white_utf8 : (text : List ℕ) (n : ℕ) → IsWhiteSpace text n → IsUtf8 text → IsUtf8 (drop n text)
white_utf8 text n at utf8 =
    let low = low_of_class at.first (λ is. let f : White ≡ Letter = sym at.white ∙ is in cc) in
    let parts = cut_utf8 (at.first ∷ []) at.rest (subst IsUtf8 at.is utf8) (inr ([], at.first, refl, low)) in
    rw (at.is, at.one) parts.1

annotation_utf8 : (text : List ℕ) (n : ℕ) → IsAnnotation text n → IsUtf8 text → IsUtf8 (drop n text)
annotation_utf8 text n at utf8 =
    let front = 40 ∷ 42 ∷ (at.inside ++ 42 ∷ 41 ∷ []) in
    let more = 40 ∷ 42 ∷ (at.inside ++ 42 ∷ []) in
    let seam : at.inside ++ 42 ∷ 41 ∷ [] ≡ at.inside ++ 42 ∷ [] ++ 41 ∷ [] =
    sym (append_assoc at.inside (42 ∷ []) (41 ∷ [])) in
    let whole : text ≡ front ++ at.rest =
    at.is ∙ ap (λ (x : List ℕ). 40 ∷ 42 ∷ x) (sym (append_assoc at.inside (42 ∷ 41 ∷ []) at.rest)) in
    let parts = cut_utf8 front at.rest (subst IsUtf8 whole utf8)
    (inr (more, 41, ap (λ (x : List ℕ). 40 ∷ 42 ∷ x) seam, omega arith)) in
    let long : length front ≡ n = omega (arith, at.long, length-append at.inside (42 ∷ 41 ∷ [])) in
    rw whole (subst IsUtf8 (sym (drop_at front at.rest n long)) parts.1)

blank_utf8 : (text : List ℕ) (n : ℕ) → piece_at text ≡ Blank n → IsUtf8 text → IsUtf8 (drop n text)
blank_utf8 text n is utf8 = elim ((blanks_are_white text n).0 is) [
  | inl space ↦ white_utf8 text n space utf8
  | inr annotation ↦ annotation_utf8 text n annotation utf8
]

abbrev IsTextOf : List ℕ → Token → Type 0
IsTextOf text t = IsUtf8 (written text t).text

among_texts : (ps : List Piece) (text : List ℕ) (from to : ℕ) → AreCut text from ps to → IsUtf8 (drop from text) →
    AllByRecursion (IsTextOf text) (tokens_among text from ps)
among_texts [] text from to cut utf8 = tt
among_texts (Unreadable ∷ ps) text from to cut utf8 = absurd (omega (arith, cut.1))
among_texts (Blank n ∷ ps) text from to cut utf8 =
    let rest = subst IsUtf8 (drop-drop n from text) (blank_utf8 (drop from text) n cut.0 utf8) in
    among_texts ps text (from + n) to cut.2 rest
among_texts (Lexeme k n ∷ ps) text from to cut utf8 =
    let parts = lexeme_utf8 k n (drop from text) cut.0 utf8 in
    let rest = subst IsUtf8 (drop-drop n from text) parts.1 in
    let long : (from + n) - from ≡ n = omega arith in
    (rw long parts.0, among_texts ps text (from + n) to cut.2 rest)

pub slices_are_texts : SlicesAreTexts
slices_are_texts text ts utf8 e =
    let whole = cut_of_tokens text ts e in
    All-from_recursion (IsTextOf text) ts
    (subst (AllByRecursion (IsTextOf text)) (sym whole.tokens)
    (among_texts whole.pieces text 0 (length text) whole.cut utf8))
