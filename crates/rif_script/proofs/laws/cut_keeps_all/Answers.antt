use Rattle.rif_script.proofs.LawLemmas.{cut_keeps_all}
use Rattle.rif_script.proofs.laws.cut_keeps_all.Goals as goal

pub returns : goal.returns
returns c = cut_keeps_all
