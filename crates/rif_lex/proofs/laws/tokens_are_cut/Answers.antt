use Rattle.rif_lex.proofs.CuttingLemmas.{tokens_are_cut}
use Rattle.rif_lex.proofs.laws.tokens_are_cut.Goals as goal

pub returns : goal.returns
returns c = tokens_are_cut
