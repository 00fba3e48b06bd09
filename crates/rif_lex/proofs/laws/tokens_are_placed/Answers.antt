use Rattle.rif_lex.proofs.SpanLemmas.{tokens_are_placed}
use Rattle.rif_lex.proofs.laws.tokens_are_placed.Goals as goal

pub returns : goal.returns
returns c = tokens_are_placed
