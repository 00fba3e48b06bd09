use Rattle.rif_lex.proofs.CuttingLemmas.{bad_token_is_first}
use Rattle.rif_lex.proofs.laws.bad_token_is_first.Goals as goal

pub returns : goal.returns
returns c = bad_token_is_first
