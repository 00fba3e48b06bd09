use Rattle.std.proofs.Common.{arith, ◌∙◌, ap, sym, length-take-le}
use Rattle.std.proofs.lemmas.List.{take_rest}
use Rattle.rif_lex.specs.Lexing.{with_front, token_at}
use Rattle.rif_lex.proofs.LexingLemmas.{blank_more, lexeme_more, within_text, IsBehind, with_front-with_front}
use Rattle.rif_lex.proofs.LexingLemmas.{tokens_behind}
use Rattle.rif_lex.proofs.LineLemmas.{lexeme_in_line}
use Rattle.rif_lex.proofs.lexer.push_tokens.Goals as goal

pub loop-place-preserved-in-Blank : goal.loop-place-preserved-in-Blank
loop-place-preserved-in-Blank c =
    let text = c.args.text.now in
    let p = c.loop-place.place in
    let n = c.in-Blank.length in
    let q = c.past-place.result in
    let fits = c.in-Blank.ensures.fits in
    let all = length-take-le n _ fits.1 in
    let at : IsBehind text p n q = record {
      some = fits.0;
      past = rw take_rest at c.past-place.ensures.is;
      offset = omega (arith, c.past-place.ensures.offset);
    } in
    record {
      within = omega (arith, within_text n p.offset text fits.1 c.loop-place.invariant.within);
      counted = c.past-place.ensures.counted;
      so_far = ap (with_front c.loop-place.found.items)
          (sym (blank_more text p q n (rw take_rest at (sym c.in-Blank.ensures.is)) at))
          ∙ c.loop-place.invariant.so_far;
    }

pub loop-place-preserved : goal.loop-place-preserved
loop-place-preserved c =
    let text = c.args.text.now in
    let p = c.loop-place.place in
    let n = c.in-Lexeme.length in
    let q = c.past_token-place.result in
    let fits = c.in-Lexeme.ensures.fits in
    let all = length-take-le n _ fits.1 in
    let at : IsBehind text p n q = record {
      some = fits.0;
      past = rw take_rest at c.past_token-place.ensures.is;
      offset = omega (arith, c.past_token-place.ensures.offset);
    } in
    let more = lexeme_more text p q c.in-Lexeme.kind n (rw take_rest at (sym c.in-Lexeme.ensures.is)) at in
    record {
      within = omega (arith, within_text n p.offset text fits.1 c.loop-place.invariant.within);
      counted = c.past_token-place.ensures.counted;
      so_far = rw c.in_ok-push-in-Lexeme.ensures.items
          (sym (with_front-with_front c.loop-place.found.items (token_at c.in-Lexeme.kind p n) (tokens_behind q text))
          ∙ ap (with_front c.loop-place.found.items) (sym more) ∙ c.loop-place.invariant.so_far);
    }

pub past_token-place-requires-clause-one_line : goal.past_token-place-requires-clause-one_line
past_token-place-requires-clause-one_line c =
    lexeme_in_line _ c.in-Lexeme.kind c.in-Lexeme.length (sym c.in-Lexeme.ensures.is)
