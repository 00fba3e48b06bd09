use Rattle.prd_relation.proofs.HistoryLemmas.{ages_are}
use Rattle.prd_relation.proofs.laws.ages_count_states_in_a_row.Goals as goal

pub returns : goal.returns
returns c = ages_are
