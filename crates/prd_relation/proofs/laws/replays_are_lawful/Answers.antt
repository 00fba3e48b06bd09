use Rattle.prd_relation.proofs.ReplayLawLemmas.{replays_lawful}
use Rattle.prd_relation.proofs.laws.replays_are_lawful.Goals as goal

pub returns : goal.returns
returns c = replays_lawful
