use Rattle.prd_relation.proofs.TurnFactsLemmas.{tell_their_facts}
use Rattle.prd_relation.proofs.laws.turns_tell_their_facts.Goals as goal

pub returns : goal.returns
returns c = tell_their_facts
