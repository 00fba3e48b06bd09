use Rattle.rif_lex.proofs.TextLemmas.{slices_are_texts}
use Rattle.rif_lex.proofs.laws.slices_are_texts.Goals as goal

pub returns : goal.returns
returns c = slices_are_texts
