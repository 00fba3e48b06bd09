use Rattle.prd_relation.proofs.AllowedLemmas.{allowed_are}
use Rattle.prd_relation.proofs.laws.the_allowed_are_the_best.Goals as goal

pub returns : goal.returns
returns c = allowed_are
