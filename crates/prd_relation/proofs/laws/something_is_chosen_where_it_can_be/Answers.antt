use Rattle.prd_relation.proofs.ChosenLemmas.{nothing_chosen}
use Rattle.prd_relation.proofs.laws.something_is_chosen_where_it_can_be.Goals as goal

pub returns : goal.returns
returns c = nothing_chosen
