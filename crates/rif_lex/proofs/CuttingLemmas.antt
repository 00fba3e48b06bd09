-- An input is cut into pieces, and its tokens are those among them.
use Rattle.std.proofs.Common.{◌≡◌, ℕ, ◌+◌, ◌≤◌, ◌<◌, suc, zero, List, [], ◌∷◌, ◌++◌, length, take, drop, refl, ap}
use Rattle.std.proofs.Common.{◌∙◌, sym, subst, arith, Ok, Err, length-take-le}
use Rattle.std.proofs.lemmas.Bool.{cases_lt}
use Rattle.std.proofs.lemmas.List.{length-drop, drop_all, append-nil}
use Rattle.std.proofs.Math.Logic.{⊎_elim}
use Rattle.std.proofs.Math.Seq.{take-add}
use Rattle.std.specs.declared.result.Result.{Result}
use Rattle.rif_refusals.specs.declared.refusal.Refusal.{Refusal}
use Rattle.rif_refusals.specs.declared.refusal.Refusal.TheVariants.{BadToken}
use Rattle.rif_lex.specs.declared.token.Kind.{Kind}
use Rattle.rif_lex.specs.declared.token.Token.{Token}
use Rattle.rif_lex.specs.declared.piece.Piece.{Piece}
use Rattle.rif_lex.specs.declared.piece.Piece.TheVariants.{Unreadable, Blank, Lexeme}
use Rattle.rif_lex.specs.declared.place.Place.{Place}
use Rattle.rif_lex.specs.Pieces.{piece_at}
use Rattle.rif_lex.specs.Places.{line_at, column_at, place_past, first_place}
use Rattle.rif_lex.specs.Lexing.{token_at, with_front, tokens_from, tokens_of}
use Rattle.rif_lex.specs.Cutting.{AreCut, tokens_among, IsCut, TokensAreCut, IsFirstUnreadable, BadTokenIsFirst}
use Rattle.rif_lex.specs.Scanning.{FitsIn}
use Rattle.rif_lex.proofs.FitLemmas.{piece_fits}
use Rattle.rif_lex.proofs.PlaceLemmas.{place_past-append, place_past-offset, place_behind}
use Rattle.rif_lex.proofs.LexingLemmas.{tokens_behind, IsBehind, unreadable_step, blank_more, lexeme_more}

-- p is a place of the text
record IsPlaceOf (text : List ℕ) (p : Place) : Type 0 where
  is : p ≡ place_past first_place (take p.offset text)
  within : p.offset ≤ length text

first_is_place : (text : List ℕ) → IsPlaceOf text first_place
first_is_place text = record { is = refl; within = omega arith }

-- the text is cut into pieces from the place on, and its tokens are those among them
record IsCutFrom (text : List ℕ) (p : Place) (ts : List Token) : Type 0 where
  pieces : List Piece
  cut : AreCut text p.offset pieces (length text)
  tokens : ts ≡ tokens_among text p.offset pieces

-- the text is cut into pieces from the place on, up to one where none begins
record IsUnreadableFrom (text : List ℕ) (p : Place) (refusal : Refusal) : Type 0 where
  at : ℕ
  within : at < length text
  pieces : List Piece
  cut : AreCut text p.offset pieces at
  unreadable : piece_at (drop at text) ≡ Unreadable
  is : refusal ≡ BadToken (line_at text at) (column_at text at)

Cuts : List ℕ → Place → Result (List Token) Refusal → Type 0
Cuts text p (Ok ts) = IsCutFrom text p ts
Cuts text p (Err refusal) = IsUnreadableFrom text p refusal

-- the place behind a piece of n bytes
abbrev behind : List ℕ → Place → ℕ → Place
behind text p n = place_past p (take n (drop p.offset text))

is_behind : (text : List ℕ) (p : Place) (n : ℕ) → 1 ≤ n → n ≤ length (drop p.offset text) →
    IsBehind text p n (behind text p n)
is_behind text p n some fits = record {
  some = some;
  past = refl;
  offset = place_past-offset p (take n (drop p.offset text))
      ∙ ap (λ (k : ℕ). p.offset + k) (length-take-le n (drop p.offset text) fits);
}

place_of_behind : (text : List ℕ) (p : Place) (n : ℕ) → IsPlaceOf text p → 1 ≤ n → n ≤ length (drop p.offset text) →
    IsPlaceOf text (behind text p n)
place_of_behind text p n at some fits =
    let far = (is_behind text p n some fits).offset in
    let front : take (behind text p n).offset text ≡ take p.offset text ++ take n (drop p.offset text) =
    ap (λ (k : ℕ). take k text) far ∙ take-add p.offset n text in
    record {
      is = ap (λ (q : Place). place_past q (take n (drop p.offset text))) at.is
          ∙ sym (ap (place_past first_place) front
          ∙ place_past-append first_place (take p.offset text) (take n (drop p.offset text)));
      within = omega (arith, far, length-drop p.offset text, at.within);
    }

abbrev token_of : Kind → ℕ → ℕ → ℕ → ℕ → Token
token_of k start end line col = record { kind = k; start = start; end = end; line = line; col = col }

same_token : (k : Kind) (s e l c m d : ℕ) → l ≡ m → c ≡ d → token_of k s e l c ≡ token_of k s e m d
same_token k s e l c m d line col = cc

-- a token in the words of the whole text
token_is : (text : List ℕ) (p : Place) (k : Kind) (n : ℕ) → IsPlaceOf text p →
    token_at k p n ≡ token_of k p.offset (p.offset + n) (line_at text p.offset) (column_at text p.offset)
token_is text p k n at =
    let is = at.is ∙ place_behind (take p.offset text) in
    same_token k _ _ _ _ _ _ (ap (λ (q : Place). q.line) is) (ap (λ (q : Place). q.col) is)

same_refusal : (l c m d : ℕ) → l ≡ m → c ≡ d → BadToken l c ≡ BadToken m d
same_refusal l c m d line col = cc

cuts_at_end : (text : List ℕ) (p : Place) → IsPlaceOf text p → length text ≤ p.offset →
    Cuts text p (tokens_behind p text)
unfolding Cuts
cuts_at_end text p at end =
    let none : tokens_behind p text ≡ Ok [] = ap (tokens_from 0 p) (drop_all p.offset text end) in
    subst (Cuts text p) (sym none) (record { pieces = []; cut = omega (arith, at.within); tokens = refl })

cuts_unreadable : (text : List ℕ) (p : Place) → IsPlaceOf text p → p.offset < length text →
    piece_at (drop p.offset text) ≡ Unreadable →
    Cuts text p (tokens_behind p text)
unfolding Cuts
cuts_unreadable text p at inside is =
    let some : 1 ≤ length (drop p.offset text) = omega (arith, length-drop p.offset text) in
    let place = at.is ∙ place_behind (take p.offset text) in
    subst (Cuts text p) (sym (unreadable_step p (drop p.offset text) some is)) (record {
      at = p.offset;
      within = inside;
      pieces = [];
      cut = refl;
      unreadable = is;
      is = same_refusal _ _ _ _ (ap (λ (q : Place). q.line) place) (ap (λ (q : Place). q.col) place);
    })

-- one piece more before those that are cut
blank_before : (text : List ℕ) (p q : Place) (n : ℕ) (given : Result (List Token) Refusal) →
    piece_at (drop p.offset text) ≡ Blank n →
    IsBehind text p n q → Cuts text q given → Cuts text p given
unfolding Cuts
blank_before text p q n (Ok ts) is at rest = record {
  pieces = Blank n ∷ rest.pieces;
  cut = (is, at.some, subst (λ (i : ℕ). AreCut text i rest.pieces (length text)) at.offset rest.cut);
  tokens = rest.tokens ∙ ap (λ (i : ℕ). tokens_among text i rest.pieces) at.offset;
}
blank_before text p q n (Err refusal) is at rest = record {
  at = rest.at;
  within = rest.within;
  pieces = Blank n ∷ rest.pieces;
  cut = (is, at.some, subst (λ (i : ℕ). AreCut text i rest.pieces rest.at) at.offset rest.cut);
  unreadable = rest.unreadable;
  is = rest.is;
}

lexeme_before : (text : List ℕ) (p q : Place) (k : Kind) (n : ℕ) (given : Result (List Token) Refusal) →
    IsPlaceOf text p →
    piece_at (drop p.offset text) ≡ Lexeme k n → IsBehind text p n q → Cuts text q given →
    Cuts text p (with_front (token_at k p n ∷ []) given)
unfolding Cuts
lexeme_before text p q k n (Ok ts) place is at rest =
    let more = rest.tokens ∙ ap (λ (i : ℕ). tokens_among text i rest.pieces) at.offset in
    let first = token_is text p k n place in
    record {
      pieces = Lexeme k n ∷ rest.pieces;
      cut = (is, at.some, subst (λ (i : ℕ). AreCut text i rest.pieces (length text)) at.offset rest.cut);
      tokens = cc;
    }
lexeme_before text p q k n (Err refusal) place is at rest = record {
  at = rest.at;
  within = rest.within;
  pieces = Lexeme k n ∷ rest.pieces;
  cut = (is, at.some, subst (λ (i : ℕ). AreCut text i rest.pieces rest.at) at.offset rest.cut);
  unreadable = rest.unreadable;
  is = rest.is;
}

cuts_from : (room : ℕ) (text : List ℕ) (p : Place) → IsPlaceOf text p → length text ≤ p.offset + room →
    Cuts text p (tokens_behind p text)
cuts_from zero text p at short = cuts_at_end text p at (omega arith)
cuts_from (suc room) text p at short = ⊎_elim
    (λ inside. elim (piece_at (drop p.offset text)) as (λ v. piece_at (drop p.offset text) ≡ v →
    FitsIn v (length (drop p.offset text)) → Cuts text p (tokens_behind p text)) [
      | Unreadable ↦ λ is _. cuts_unreadable text p at inside is
      | Blank n ↦ λ is fits.
          let q = behind text p n in
          let to = is_behind text p n fits.0 fits.1 in
          let rest = cuts_from room text q (place_of_behind text p n at fits.0 fits.1) (omega (arith, to.offset)) in
          subst (Cuts text p) (sym (blank_more text p q n is to))
          (blank_before text p q n (tokens_behind q text) is to rest)
      | Lexeme k n ↦ λ is fits.
          let q = behind text p n in
          let to = is_behind text p n fits.0 fits.1 in
          let rest = cuts_from room text q (place_of_behind text p n at fits.0 fits.1) (omega (arith, to.offset)) in
          subst (Cuts text p) (sym (lexeme_more text p q k n is to))
          (lexeme_before text p q k n (tokens_behind q text) at is to rest)
    ] refl (piece_fits (drop p.offset text)))
    (λ end. cuts_at_end text p at end)
    (cases_lt p.offset (length text))

cuts_whole : (text : List ℕ) (given : Result (List Token) Refusal) → tokens_of text ≡ given →
    Cuts text first_place given
cuts_whole text given e =
    subst (Cuts text first_place) e (cuts_from (length text) text first_place (first_is_place text) (omega arith))

pub cut_of_tokens : (text : List ℕ) (ts : List Token) → tokens_of text ≡ Ok ts → IsCut text ts
unfolding Cuts
cut_of_tokens text ts e = let whole = cuts_whole text (Ok ts) e in
    record { pieces = whole.pieces; cut = whole.cut; tokens = whole.tokens }

pub first_of_refusal : (text : List ℕ) (refusal : Refusal) → tokens_of text ≡ Err refusal →
    IsFirstUnreadable text refusal
unfolding Cuts
first_of_refusal text refusal e = let whole = cuts_whole text (Err refusal) e in record {
  at = whole.at;
  within = whole.within;
  pieces = whole.pieces;
  cut = whole.cut;
  unreadable = whole.unreadable;
  is = whole.is;
}

-- From the pieces to the tokens.

-- the text from p up to a place has these tokens, and all that follow are those from there on
record LeadsTo (text : List ℕ) (p : Place) (ts : List Token) (to : ℕ) : Type 0 where
  place : Place
  is : IsPlaceOf text place
  at : place.offset ≡ to
  gives : tokens_behind p text ≡ with_front ts (tokens_behind place text)

with_front-none : (given : Result (List Token) Refusal) → with_front [] given ≡ given
with_front-none (Ok ts) = refl
with_front-none (Err refusal) = refl

with_front-one : (t : Token) (ts : List Token) (given : Result (List Token) Refusal) →
    with_front (t ∷ []) (with_front ts given) ≡ with_front (t ∷ ts) given
with_front-one t ts (Ok us) = refl
with_front-one t ts (Err refusal) = refl

-- what a piece at a place says of the text
record IsNext (text : List ℕ) (p : Place) (n : ℕ) : Type 0 where
  place : IsPlaceOf text (behind text p n)
  step : IsBehind text p n (behind text p n)

next_of : (text : List ℕ) (p : Place) (n : ℕ) → IsPlaceOf text p → 1 ≤ n → n ≤ length (drop p.offset text) →
    IsNext text p n
next_of text p n at some fits =
    record { place = place_of_behind text p n at some fits; step = is_behind text p n some fits }

next_blank : (text : List ℕ) (p : Place) (n : ℕ) → IsPlaceOf text p → piece_at (drop p.offset text) ≡ Blank n →
    IsNext text p n
next_blank text p n at is =
    let fits : (1 ≤ n) × (n ≤ length (drop p.offset text)) =
    subst (λ v. FitsIn v (length (drop p.offset text))) is (piece_fits (drop p.offset text)) in
    next_of text p n at fits.0 fits.1

next_lexeme : (text : List ℕ) (p : Place) (k : Kind) (n : ℕ) → IsPlaceOf text p →
    piece_at (drop p.offset text) ≡ Lexeme k n → IsNext text p n
next_lexeme text p k n at is =
    let fits : (1 ≤ n) × (n ≤ length (drop p.offset text)) =
    subst (λ v. FitsIn v (length (drop p.offset text))) is (piece_fits (drop p.offset text)) in
    next_of text p n at fits.0 fits.1

lead_blank : (text : List ℕ) (p : Place) (n : ℕ) (ps : List Piece) (to : ℕ) →
    piece_at (drop p.offset text) ≡ Blank n → IsBehind text p n (behind text p n) →
    LeadsTo text (behind text p n) (tokens_among text (behind text p n).offset ps) to →
    LeadsTo text p (tokens_among text p.offset (Blank n ∷ ps)) to
lead_blank text p n ps to is step more = record {
  place = more.place;
  is = more.is;
  at = more.at;
  gives = blank_more text p (behind text p n) n is step ∙ (more.gives
      ∙ ap (λ (i : ℕ). with_front (tokens_among text i ps) (tokens_behind more.place text)) step.offset);
}

lead_lexeme : (text : List ℕ) (p : Place) (k : Kind) (n : ℕ) (ps : List Piece) (to : ℕ) → IsPlaceOf text p →
    piece_at (drop p.offset text) ≡ Lexeme k n → IsBehind text p n (behind text p n) →
    LeadsTo text (behind text p n) (tokens_among text (behind text p n).offset ps) to →
    LeadsTo text p (tokens_among text p.offset (Lexeme k n ∷ ps)) to
lead_lexeme text p k n ps to place is step more =
    let far = behind text p n in
    let among = tokens_among text far.offset ps in
    let first = token_is text p k n place in
    let later : among ≡ tokens_among text (p.offset + n) ps =
    ap (λ (i : ℕ). tokens_among text i ps) step.offset in
    let same : token_at k p n ∷ among ≡ tokens_among text p.offset (Lexeme k n ∷ ps) = cc in
    record {
      place = more.place;
      is = more.is;
      at = more.at;
      gives = lexeme_more text p far k n is step
          ∙ (ap (with_front (token_at k p n ∷ [])) more.gives
          ∙ (with_front-one (token_at k p n) among (tokens_behind more.place text)
          ∙ ap (λ us. with_front us (tokens_behind more.place text)) same));
    }

-- pieces from a place on, up to a byte, give the tokens among them
lead_to : (ps : List Piece) (text : List ℕ) (p : Place) (to : ℕ) → IsPlaceOf text p → AreCut text p.offset ps to →
    LeadsTo text p (tokens_among text p.offset ps) to
lead_to [] text p to at cut =
    record { place = p; is = at; at = cut; gives = sym (with_front-none (tokens_behind p text)) }
lead_to (Unreadable ∷ ps) text p to at cut = absurd (omega (arith, cut.1))
lead_to (Blank n ∷ ps) text p to at cut =
    let next = next_blank text p n at cut.0 in
    let rest = subst (λ (i : ℕ). AreCut text i ps to) (sym next.step.offset) cut.2 in
    lead_blank text p n ps to cut.0 next.step (lead_to ps text (behind text p n) to next.place rest)
lead_to (Lexeme k n ∷ ps) text p to at cut =
    let next = next_lexeme text p k n at cut.0 in
    let rest = subst (λ (i : ℕ). AreCut text i ps to) (sym next.step.offset) cut.2 in
    lead_lexeme text p k n ps to at cut.0 next.step (lead_to ps text (behind text p n) to next.place rest)

tokens_of_cut : (text : List ℕ) (ts : List Token) → IsCut text ts → tokens_of text ≡ Ok ts
tokens_of_cut text ts c =
    let all = lead_to c.pieces text first_place (length text) (first_is_place text) c.cut in
    let among = tokens_among text 0 c.pieces in
    let none : tokens_behind all.place text ≡ Ok [] =
    ap (tokens_from 0 all.place) (drop_all all.place.offset text (omega (arith, all.at))) in
    all.gives ∙ (ap (with_front among) none ∙ ap Ok (append-nil among ∙ sym c.tokens))

refusal_of_first : (text : List ℕ) (refusal : Refusal) → IsFirstUnreadable text refusal → tokens_of text ≡ Err refusal
refusal_of_first text refusal u =
    let all = lead_to u.pieces text first_place u.at (first_is_place text) u.cut in
    let p = all.place in
    let some : 1 ≤ length (drop p.offset text) =
    omega (arith, length-drop p.offset text, all.at, u.within) in
    let stop : piece_at (drop p.offset text) ≡ Unreadable =
    ap (λ (i : ℕ). piece_at (drop i text)) all.at ∙ u.unreadable in
    let place = all.is.is ∙ place_behind (take p.offset text) in
    let line : p.line ≡ line_at text u.at =
    ap (λ (q : Place). q.line) place ∙ ap (line_at text) all.at in
    let col : p.col ≡ column_at text u.at =
    ap (λ (q : Place). q.col) place ∙ ap (column_at text) all.at in
    all.gives ∙ (ap (with_front (tokens_among text 0 u.pieces)) (unreadable_step p (drop p.offset text) some stop)
    ∙ ap Err (same_refusal _ _ _ _ line col ∙ sym u.is))

pub tokens_are_cut : TokensAreCut
tokens_are_cut text ts = (cut_of_tokens text ts, tokens_of_cut text ts)

pub bad_token_is_first : BadTokenIsFirst
bad_token_is_first text refusal = (first_of_refusal text refusal, refusal_of_first text refusal)
