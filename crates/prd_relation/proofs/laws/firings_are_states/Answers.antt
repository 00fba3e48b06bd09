use Rattle.prd_relation.proofs.RunLawLemmas.{firings_lead_on}
use Rattle.prd_relation.proofs.laws.firings_are_states.Goals as goal

pub returns : goal.returns
returns c = firings_lead_on
