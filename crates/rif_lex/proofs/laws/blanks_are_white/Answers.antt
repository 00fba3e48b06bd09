use Rattle.rif_lex.proofs.BlankLemmas.{blanks_are_white}
use Rattle.rif_lex.proofs.laws.blanks_are_white.Goals as goal

pub returns : goal.returns
returns c = blanks_are_white
