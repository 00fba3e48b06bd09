use Rattle.prd_relation.proofs.ActLemmas.{others_keep}
use Rattle.prd_relation.proofs.laws.other_turns_keep_the_history.Goals as goal

pub returns : goal.returns
returns c = others_keep
