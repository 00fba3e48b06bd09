use Rattle.prd_relation.proofs.RunHistoryLemmas.{reach_histories}
use Rattle.prd_relation.proofs.laws.runs_reach_histories.Goals as goal

pub returns : goal.returns
returns c = reach_histories
