use Rattle.prd_relation.proofs.ChosenLemmas.{chosen_unrefracted}
use Rattle.prd_relation.proofs.laws.the_chosen_is_unrefracted.Goals as goal

pub returns : goal.returns
returns c = chosen_unrefracted
