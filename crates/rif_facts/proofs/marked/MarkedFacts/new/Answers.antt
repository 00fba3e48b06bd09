use Rattle.rif_facts.proofs.KeyedLemmas.{marked_empty}
use Rattle.rif_facts.proofs.marked.MarkedFacts.new.Goals as goal

pub invariant_of-result : goal.invariant_of-result
invariant_of-result c = marked_empty c.new.result.entries c.new.ensures.empty

pub returns-clause-marked : goal.returns-clause-marked
returns-clause-marked c = marked_empty c.new.result.entries c.new.ensures.empty
