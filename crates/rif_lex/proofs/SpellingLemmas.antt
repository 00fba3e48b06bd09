-- Tokens that are written one behind another are lexed back.
use Rattle.std.proofs.Common.{◌≡◌, ℕ, ◌+◌, ◌-◌, ◌≤◌, List, [], ◌∷◌, ◌++◌, length, take, drop, map, refl, ap, ◌∙◌, sym}
use Rattle.std.proofs.Common.{subst, arith, true, Ok, append_assoc, length-append}
use Rattle.std.proofs.lemmas.List.{drop_at, take_at}
use Rattle.rif_lex.specs.declared.token.Kind.{Kind}
use Rattle.rif_lex.specs.declared.token.Token.{Token}
use Rattle.rif_lex.specs.declared.piece.Piece.TheVariants.{Lexeme}
use Rattle.rif_lex.specs.declared.place.Place.{Place}
use Rattle.rif_lex.specs.Pieces.{piece_at}
use Rattle.rif_lex.specs.Places.{place_past, first_place}
use Rattle.rif_lex.specs.Lexing.{token_at, with_front, tokens_from}
use Rattle.rif_lex.specs.Spelling.{Written, written, Gap, joined, space, line_feed, gap_text, Spelled, spelled_text}
use Rattle.rif_lex.specs.Spelling.{ends_before, AreSeparate, SpelledIsLexed}
use Rattle.rif_lex.proofs.FollowLemmas.{piece_at-append}
use Rattle.rif_lex.proofs.PlaceLemmas.{place_past-offset}
use Rattle.rif_lex.proofs.LexingLemmas.{lexeme_step}

gap_step : (g : Gap) (p : Place) (rest : List ℕ) →
    tokens_from 0 p (gap_text g ++ rest) ≡ tokens_from 0 (place_past p (gap_text g)) rest
gap_step joined p rest = refl
gap_step space p rest = refl
gap_step line_feed p rest = refl

some_bytes : (k : Kind) (text : List ℕ) → piece_at text ≡ Lexeme k (length text) → 1 ≤ length text
some_bytes k [] e = cc
some_bytes k (b ∷ bs) e = omega arith

-- the tokens of a token's text, a gap and the rest
spelled_step : (k : Kind) (text : List ℕ) (g : Gap) (p : Place) (rest : List ℕ) →
    piece_at text ≡ Lexeme k (length text) →
    ends_before k (gap_text g ++ rest) ≡ true →
    tokens_from 0 p (text ++ (gap_text g ++ rest))
    ≡ with_front (token_at k p (length text) ∷ []) (tokens_from 0 (place_past (place_past p text) (gap_text g)) rest)
spelled_step k text g p rest is ends =
    let behind = gap_text g ++ rest in
    let step = lexeme_step k (length text) p (text ++ behind) (piece_at-append k text behind is ends)
    (some_bytes k text is) in
    let taken = take_at text behind (length text) refl in
    let left = drop_at text behind (length text) refl in
    let gap = gap_step g (place_past p text) rest in
    cc

abbrev written_of : Kind → List ℕ → Written
written_of k text = record { kind = k; text = text }

-- a token's text is the slice of its span
written_first : (k : Kind) (text front rest : List ℕ) (p : Place) → p.offset ≡ length front →
    written (front ++ (text ++ rest)) (token_at k p (length text)) ≡ record { kind = k; text = text }
written_first k text front rest p at =
    let long : (p.offset + length text) - p.offset ≡ length text = omega arith in
    let left = drop_at front (text ++ rest) p.offset (sym at) in
    let taken = take_at text rest (length text) refl in
    ap (written_of k) (ap (λ (n : ℕ). take n (drop p.offset (front ++ (text ++ rest)))) long
    ∙ (ap (take (length text)) left ∙ taken))

spelled_from : (ss : List Spelled) (front : List ℕ) (p : Place) → p.offset ≡ length front → AreSeparate ss →
    (ts : List Token) ×
    (tokens_from 0 p (spelled_text ss) ≡ Ok ts) ×
    (map (written (front ++ spelled_text ss)) ts ≡ map (λ s. s.token) ss)
spelled_from [] front p at separate = ([], refl, refl)
spelled_from (s ∷ ss) front p at separate =
    let k = s.token.kind in
    let text = s.token.text in
    let gap = gap_text s.gap in
    let rest = spelled_text ss in
    let q = place_past (place_past p text) gap in
    let far : q.offset ≡ length (front ++ (text ++ gap)) =
    omega (
      arith,
      place_past-offset p text,
      place_past-offset (place_past p text) gap,
      length-append front (text ++ gap),
      length-append text gap,
    ) in
    let more = spelled_from ss (front ++ (text ++ gap)) q far separate.2 in
    let step = spelled_step k text s.gap p rest separate.0 separate.1 in
    let whole : front ++ (text ++ gap) ++ rest ≡ front ++ (text ++ (gap ++ rest)) =
    append_assoc front (text ++ gap) rest ∙ ap (λ (x : List ℕ). front ++ x) (append_assoc text gap rest) in
    let first = written_first k text front (gap ++ rest) p at in
    let later = subst (λ (x : List ℕ). map (written x) more.0 ≡ map (λ s. s.token) ss) whole more.2 in
    (token_at k p (length text) ∷ more.0, step ∙ ap (with_front (token_at k p (length text) ∷ [])) more.1, cc)

pub spelled_is_lexed : SpelledIsLexed
spelled_is_lexed ss separate = spelled_from ss [] first_place refl separate
