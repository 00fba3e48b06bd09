use Rattle.prd_relation.proofs.DisposeLemmas.{disposes_by_dispose}
use Rattle.prd_relation.proofs.laws.a_dispose_disposes.Goals as goal

pub returns : goal.returns
returns c = disposes_by_dispose
