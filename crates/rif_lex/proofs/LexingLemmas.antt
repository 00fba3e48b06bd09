-- Lexing goes from piece to piece.
use Rattle.std.proofs.Common.{◌≡◌, ℕ, ◌+◌, ◌-◌, ◌≤◌, suc, zero, List, [], ◌∷◌, ◌++◌, length, take, drop, refl, ap}
use Rattle.std.proofs.Common.{◌∙◌, sym, arith, Ok, Err, append_assoc, IsUtf8, true, false, nat_lt}
use Rattle.std.proofs.lemmas.Bool.{le-ltb, ltb-false}
use Rattle.std.proofs.lemmas.Str.{is_utf8-from_IsUtf8, IsUtf8-from_is_utf8}
use Rattle.std.proofs.lemmas.List.{drop-drop, length-drop, take_rest}
use Rattle.std.specs.Str.{is_utf8}
use Rattle.std.specs.Str.Lossy.{utf8_valid_len}
use Rattle.std.specs.declared.result.Result.{Result}
use Rattle.rif_refusals.specs.Limits.{most_input_bytes}
use Rattle.rif_refusals.specs.declared.refusal.Refusal.{Refusal}
use Rattle.rif_refusals.specs.declared.refusal.Refusal.TheVariants.{NotUtf8, BadToken}
use Rattle.rif_lex.specs.declared.piece.Piece.TheVariants.{Unreadable, Blank, Lexeme}
use Rattle.rif_lex.specs.declared.token.Kind.{Kind}
use Rattle.rif_lex.specs.declared.token.Token.{Token}
use Rattle.rif_lex.specs.declared.place.Place.{Place}
use Rattle.rif_lex.specs.Pieces.{piece_at}
use Rattle.rif_lex.specs.Places.{place_after, place_past}
use Rattle.rif_lex.specs.Lexing.{token_at, with_front, tokens_from, tokens_of, lexed, InputsAreTexts}
use Rattle.rif_lex.proofs.TestLemmas.{by_test}

-- what is inside a piece is passed over
pub skipped : (n : ℕ) (p : Place) (text : List ℕ) →
    tokens_from n p text ≡ tokens_from 0 (place_past p (take n text)) (drop n text)
skipped zero p text = refl
skipped (suc n) p [] = refl
skipped (suc n) p (b ∷ bs) = skipped n (place_after p b) bs

pub blank_step : (n : ℕ) (p : Place) (text : List ℕ) → piece_at text ≡ Blank n → 1 ≤ n →
    tokens_from 0 p text ≡ tokens_from 0 (place_past p (take n text)) (drop n text)
blank_step n p [] is some = cc
blank_step zero p (b ∷ bs) is some = absurd (omega arith)
blank_step (suc n) p (b ∷ bs) is some = rw (is, tokens_from) (skipped n (place_after p b) bs)

pub lexeme_step : (kind : Kind) (n : ℕ) (p : Place) (text : List ℕ) → piece_at text ≡ Lexeme kind n → 1 ≤ n →
    tokens_from 0 p text ≡ with_front (token_at kind p n ∷ [])
    (tokens_from 0 (place_past p (take n text)) (drop n text))
lexeme_step kind n p [] is some = cc
lexeme_step kind zero p (b ∷ bs) is some = absurd (omega arith)
lexeme_step kind (suc n) p (b ∷ bs) is some =
    rw (is, tokens_from) (ap (with_front (token_at kind p (suc n) ∷ [])) (skipped n (place_after p b) bs))

pub unreadable_step : (p : Place) (text : List ℕ) → 1 ≤ length text → piece_at text ≡ Unreadable →
    tokens_from 0 p text ≡ Err (BadToken p.line p.col)
unreadable_step p [] some is = absurd (omega arith)
unreadable_step p (b ∷ bs) some is = rw (is, tokens_from) refl

pub with_front-with_front : (front : List Token) (t : Token) (more : Result (List Token) Refusal) →
    with_front front (with_front (t ∷ []) more) ≡ with_front (front ++ t ∷ []) more
with_front-with_front front t (Ok ts) = ap Ok (sym (append_assoc front (t ∷ []) ts))
with_front-with_front front t (Err refusal) = refl

-- the tokens of a text from a place on
abbrev pub tokens_behind : Place → List ℕ → Result (List Token) Refusal
tokens_behind p text = tokens_from 0 p (drop p.offset text)

-- q is the place behind the piece of n bytes that stands at p
pub record IsBehind (text : List ℕ) (p : Place) (n : ℕ) (q : Place) : Type 0 where
  pub some : 1 ≤ n
  pub past : q ≡ place_past p (take n (drop p.offset text))
  pub offset : q.offset ≡ p.offset + n

rest_behind : (text : List ℕ) (p q : Place) (n : ℕ) → IsBehind text p n q →
    drop n (drop p.offset text) ≡ drop q.offset text
rest_behind text p q n at = drop-drop n p.offset text ∙ ap (λ (i : ℕ). drop i text) (sym at.offset)

pub blank_more : (text : List ℕ) (p q : Place) (n : ℕ) → piece_at (drop p.offset text) ≡ Blank n →
    IsBehind text p n q → tokens_behind p text ≡ tokens_behind q text
blank_more text p q n is at =
    let step = blank_step n p (drop p.offset text) is at.some in
    let rest = rest_behind text p q n at in
    let past = at.past in
    cc

pub lexeme_more : (text : List ℕ) (p q : Place) (kind : Kind) (n : ℕ) →
    piece_at (drop p.offset text) ≡ Lexeme kind n →
    IsBehind text p n q → tokens_behind p text ≡ with_front (token_at kind p n ∷ []) (tokens_behind q text)
lexeme_more text p q kind n is at =
    let step = lexeme_step kind n p (drop p.offset text) is at.some in
    let rest = rest_behind text p q n at in
    let past = at.past in
    cc

-- a piece of the rest lies within the whole
pub within_text : (n at : ℕ) (text : List ℕ) → n ≤ length (take (length text - at) (drop at text)) →
    at ≤ length text → at + n ≤ length text
within_text n at text fits within =
    let rest = ap length (take_rest text at) in
    let left = length-drop at text in
    omega arith

-- an input that isn't too long, and is UTF-8, leads to what its text leads to
pub lexed_text : (bytes : List ℕ) → length bytes ≤ most_input_bytes → IsUtf8 bytes → lexed bytes ≡ tokens_of bytes
lexed_text bytes short utf8 =
    rw (le-ltb most_input_bytes (length bytes) short, is_utf8-from_IsUtf8 bytes utf8) refl

-- bytes that aren't UTF-8
pub lexed_broken : (bytes : List ℕ) → length bytes ≤ most_input_bytes → ¬ (IsUtf8 bytes) →
    lexed bytes ≡ Err (NotUtf8 (utf8_valid_len bytes))
lexed_broken bytes short broken =
    let long = le-ltb most_input_bytes (length bytes) short in
    elim (is_utf8 bytes) as (λ v. is_utf8 bytes ≡ v → lexed bytes ≡ Err (NotUtf8 (utf8_valid_len bytes))) [
      | true ↦ λ is. absurd (broken (IsUtf8-from_is_utf8 bytes is))
      | false ↦ λ is. rw (long, is) refl
    ] refl

pub inputs_are_texts : InputsAreTexts
inputs_are_texts bytes ts = (
  λ e. by_test (nat_lt most_input_bytes (length bytes)) _ _ _ e
      (λ _ f. cc)
      (λ short f. by_test (is_utf8 bytes) _ _ _ f
      (λ utf8 g. record { short = ltb-false _ _ short; utf8 = IsUtf8-from_is_utf8 bytes utf8; tokens = g })
      (λ _ g. cc)),
  λ is. lexed_text bytes is.short is.utf8 ∙ is.tokens,
)
