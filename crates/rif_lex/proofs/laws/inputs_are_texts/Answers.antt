use Rattle.rif_lex.proofs.LexingLemmas.{inputs_are_texts}
use Rattle.rif_lex.proofs.laws.inputs_are_texts.Goals as goal

pub returns : goal.returns
returns c = inputs_are_texts
