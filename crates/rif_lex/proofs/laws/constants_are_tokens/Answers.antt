use Rattle.rif_lex.proofs.ConstantLemmas.{constants_are_tokens}
use Rattle.rif_lex.proofs.laws.constants_are_tokens.Goals as goal

pub returns : goal.returns
returns c = constants_are_tokens
