use Rattle.prd_relation.proofs.ChosenLemmas.{chosen_least}
use Rattle.prd_relation.proofs.laws.the_chosen_is_the_least_allowed.Goals as goal

pub returns : goal.returns
returns c = chosen_least
