use Rattle.prd_relation.proofs.ActLemmas.{firing_of_chosen}
use Rattle.prd_relation.proofs.laws.a_firing_is_of_the_chosen.Goals as goal

pub returns : goal.returns
returns c = firing_of_chosen
