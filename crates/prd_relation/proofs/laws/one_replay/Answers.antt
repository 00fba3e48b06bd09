use Rattle.prd_relation.proofs.ReplayLawLemmas.{one_replay}
use Rattle.prd_relation.proofs.laws.one_replay.Goals as goal

pub returns : goal.returns
returns c = one_replay
