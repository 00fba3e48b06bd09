use Rattle.prd_relation.proofs.ActLemmas.{stops_for_reason}
use Rattle.prd_relation.proofs.laws.turns_stop_where_they_must.Goals as goal

pub returns : goal.returns
returns c = stops_for_reason
