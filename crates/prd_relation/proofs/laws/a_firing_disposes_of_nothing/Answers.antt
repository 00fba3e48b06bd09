use Rattle.prd_relation.proofs.ActLemmas.{firings_stay_live}
use Rattle.prd_relation.proofs.laws.a_firing_disposes_of_nothing.Goals as goal

pub returns : goal.returns
returns c = firings_stay_live
