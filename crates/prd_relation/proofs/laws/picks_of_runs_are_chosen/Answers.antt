use Rattle.prd_relation.proofs.PickLemmas.{picks_chosen}
use Rattle.prd_relation.proofs.laws.picks_of_runs_are_chosen.Goals as goal

pub returns : goal.returns
returns c = picks_chosen
