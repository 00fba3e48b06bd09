use Rattle.prd_relation.proofs.ChosenLemmas.{chosen_best}
use Rattle.prd_relation.proofs.laws.the_chosen_is_a_best_one.Goals as goal

pub returns : goal.returns
returns c = chosen_best
