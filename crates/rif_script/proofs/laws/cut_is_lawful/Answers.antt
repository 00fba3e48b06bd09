use Rattle.rif_script.proofs.LawLemmas.{cut_is_lawful}
use Rattle.rif_script.proofs.laws.cut_is_lawful.Goals as goal

pub returns : goal.returns
returns c = cut_is_lawful
