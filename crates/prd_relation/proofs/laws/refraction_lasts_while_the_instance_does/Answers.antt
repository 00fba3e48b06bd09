use Rattle.prd_relation.proofs.HistoryLemmas.{refraction_is}
use Rattle.prd_relation.proofs.laws.refraction_lasts_while_the_instance_does.Goals as goal

pub returns : goal.returns
returns c = refraction_is
