use Rattle.rif_actions.proofs.LeastValueLemmas.{least_value_is}
use Rattle.rif_actions.proofs.laws.the_least_value_is_below_the_others.Goals as goal

pub returns : goal.returns
returns c = least_value_is
