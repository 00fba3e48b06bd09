use Rattle.rif_lex.proofs.SpanLemmas.{slices_are_tokens}
use Rattle.rif_lex.proofs.laws.slices_are_tokens.Goals as goal

pub returns : goal.returns
returns c = slices_are_tokens
