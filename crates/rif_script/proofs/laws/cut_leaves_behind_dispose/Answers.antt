use Rattle.rif_script.proofs.LawLemmas.{cut_leaves_behind_dispose}
use Rattle.rif_script.proofs.laws.cut_leaves_behind_dispose.Goals as goal

pub returns : goal.returns
returns c = cut_leaves_behind_dispose
