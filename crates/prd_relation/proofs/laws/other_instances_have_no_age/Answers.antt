use Rattle.prd_relation.proofs.HistoryLemmas.{others_unaged}
use Rattle.prd_relation.proofs.laws.other_instances_have_no_age.Goals as goal

pub returns : goal.returns
returns c = others_unaged
