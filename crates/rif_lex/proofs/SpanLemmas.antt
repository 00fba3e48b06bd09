-- What holds of each of the tokens among the pieces of a text.
use Rattle.std.proofs.Common.{◌≡◌, ℕ, ◌+◌, ◌-◌, ◌≤◌, List, [], ◌∷◌, length, take, drop, refl, ap, sym, subst, arith}
use Rattle.std.proofs.Common.{length-take-le}
use Rattle.std.proofs.lemmas.List.Elements.{All-from_recursion}
use Rattle.std.specs.List.{AllByRecursion}
use Rattle.rif_lex.specs.declared.token.Kind.{Kind}
use Rattle.rif_lex.specs.declared.token.Token.{Token}
use Rattle.rif_lex.specs.declared.piece.Piece.{Piece}
use Rattle.rif_lex.specs.declared.piece.Piece.TheVariants.{Unreadable, Blank, Lexeme}
use Rattle.rif_lex.specs.Pieces.{piece_at}
use Rattle.rif_lex.specs.Places.{line_at, column_at, line_feeds}
use Rattle.rif_lex.specs.Cutting.{AreCut, tokens_among, AreRising, SpansRise, TokensArePlaced, FewTokens}
use Rattle.rif_lex.specs.Spelling.{written, IsToken, SlicesAreTokens}
use Rattle.rif_lex.specs.Scanning.{FitsIn}
use Rattle.rif_lex.proofs.FitLemmas.{piece_fits}
use Rattle.rif_lex.proofs.LineLemmas.{lexeme_in_line}
use Rattle.rif_lex.proofs.FollowLemmas.{piece_alone}
use Rattle.rif_lex.proofs.CuttingLemmas.{cut_of_tokens}

-- spans that rise from one byte on rise from each before it
rises_before : (ts : List Token) (low from to : ℕ) → low ≤ from → AreRising from ts to → AreRising low ts to
rises_before [] low from to before rises = omega arith
rises_before (t ∷ ts) low from to before rises = (omega (arith, rises.0), rises.1, rises.2)

among_rise : (ps : List Piece) (text : List ℕ) (from to : ℕ) → AreCut text from ps to →
    AreRising from (tokens_among text from ps) to
among_rise [] text from to cut = omega (arith, cut)
among_rise (Unreadable ∷ ps) text from to cut = absurd (omega (arith, cut.1))
among_rise (Blank n ∷ ps) text from to cut =
    rises_before _ from (from + n) to (omega arith) (among_rise ps text (from + n) to cut.2)
among_rise (Lexeme k n ∷ ps) text from to cut =
    (omega arith, omega (arith, cut.1), among_rise ps text (from + n) to cut.2)

pub spans_rise : SpansRise
spans_rise text ts e =
    let whole = cut_of_tokens text ts e in
    subst (λ us. AreRising 0 us (length text)) (sym whole.tokens)
    (among_rise whole.pieces text 0 (length text) whole.cut)

among_few : (ps : List Piece) (text : List ℕ) (from to : ℕ) → AreCut text from ps to →
    from + length (tokens_among text from ps) ≤ to
among_few [] text from to cut = omega (arith, cut)
among_few (Unreadable ∷ ps) text from to cut = absurd (omega (arith, cut.1))
among_few (Blank n ∷ ps) text from to cut = omega (arith, among_few ps text (from + n) to cut.2)
among_few (Lexeme k n ∷ ps) text from to cut = omega (arith, cut.1, among_few ps text (from + n) to cut.2)

pub few_tokens : FewTokens
few_tokens text ts e =
    let whole = cut_of_tokens text ts e in
    omega (arith, among_few whole.pieces text 0 (length text) whole.cut, ap length whole.tokens)

abbrev IsPlaced : List ℕ → Token → Type 0
IsPlaced text t = (t.line ≡ line_at text t.start) × (t.col ≡ column_at text t.start)

among_placed : (ps : List Piece) (text : List ℕ) (from : ℕ) →
    AllByRecursion (IsPlaced text) (tokens_among text from ps)
among_placed [] text from = tt
among_placed (Unreadable ∷ ps) text from = among_placed ps text from
among_placed (Blank n ∷ ps) text from = among_placed ps text (from + n)
among_placed (Lexeme k n ∷ ps) text from = ((refl, refl), among_placed ps text (from + n))

pub tokens_are_placed : TokensArePlaced
tokens_are_placed text ts e =
    let whole = cut_of_tokens text ts e in
    All-from_recursion (IsPlaced text) ts
    (subst (AllByRecursion (IsPlaced text)) (sym whole.tokens) (among_placed whole.pieces text 0))

abbrev IsSlice : List ℕ → Token → Type 0
IsSlice text t = IsToken (written text t) × (line_feeds (written text t).text ≡ 0)

-- the slice of a piece that is a token
slice_is : (text : List ℕ) (k : Kind) (from n line col : ℕ) → piece_at (drop from text) ≡ Lexeme k n → 1 ≤ n →
    IsSlice text (record { kind = k; start = from; end = from + n; line = line; col = col })
slice_is text k from n line col is some =
    let fits : (1 ≤ n) × (n ≤ length (drop from text)) =
    subst (λ p. FitsIn p (length (drop from text))) is (piece_fits (drop from text)) in
    let long : (from + n) - from ≡ n = omega arith in
    let all : length (take n (drop from text)) ≡ n = length-take-le n (drop from text) fits.1 in
    rw (long, all) (piece_alone k n (drop from text) is, lexeme_in_line (drop from text) k n is)

among_slices : (ps : List Piece) (text : List ℕ) (from to : ℕ) → AreCut text from ps to →
    AllByRecursion (IsSlice text) (tokens_among text from ps)
among_slices [] text from to cut = tt
among_slices (Unreadable ∷ ps) text from to cut = absurd (omega (arith, cut.1))
among_slices (Blank n ∷ ps) text from to cut = among_slices ps text (from + n) to cut.2
among_slices (Lexeme k n ∷ ps) text from to cut = (
  slice_is text k from n (line_at text from) (column_at text from) cut.0 cut.1,
  among_slices ps text (from + n) to cut.2,
)

pub slices_are_tokens : SlicesAreTokens
slices_are_tokens text ts e =
    let whole = cut_of_tokens text ts e in
    All-from_recursion (IsSlice text) ts
    (subst (AllByRecursion (IsSlice text)) (sym whole.tokens)
    (among_slices whole.pieces text 0 (length text) whole.cut))
