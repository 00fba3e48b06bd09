use Rattle.std.proofs.Common.{◌∙◌, ap}
use Rattle.rif_lex.specs.declared.place.Place.{Place}
use Rattle.rif_lex.specs.declared.token.Token.{Token}
use Rattle.prd_reader.proofs.PlaceLemmas.{column_of_end, column_of_token, line_of_end, line_of_token}
use Rattle.prd_reader.proofs.document.place_of.Goals as goal

pub returns-in-Some-clause-line : goal.returns-in-Some-clause-line
returns-in-Some-clause-line c =
    ap (λ (t : Token). t.line) c.in-Some.ensures.lookup.1
    ∙ line_of_token c.args.bytes.now c.args.tokens.now c.args.place c.in-Some.token.now
    c.in-Some.ensures.lookup.3.0

pub returns-in-Some-clause-col : goal.returns-in-Some-clause-col
returns-in-Some-clause-col c =
    ap (λ (t : Token). t.col) c.in-Some.ensures.lookup.1
    ∙ column_of_token c.args.bytes.now c.args.tokens.now c.args.place c.in-Some.token.now
    c.in-Some.ensures.lookup.3.0

pub returns-in-None-clause-line : goal.returns-in-None-clause-line
returns-in-None-clause-line c =
    ap (λ (p : Place). p.line) c.end_of-end.ensures
    ∙ line_of_end c.args.bytes.now c.args.tokens.now c.args.place c.in-None.ensures.lookup.3

pub returns-in-None-clause-col : goal.returns-in-None-clause-col
returns-in-None-clause-col c =
    ap (λ (p : Place). p.col) c.end_of-end.ensures
    ∙ column_of_end c.args.bytes.now c.args.tokens.now c.args.place c.in-None.ensures.lookup.3
