use Rattle.prd_relation.proofs.RunLawLemmas.{disposes_end}
use Rattle.prd_relation.proofs.laws.a_dispose_ends_the_run.Goals as goal

pub returns : goal.returns
returns c = disposes_end
