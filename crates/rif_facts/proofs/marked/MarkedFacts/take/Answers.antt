use Rattle.std.proofs.Common.{None}
use Rattle.rif_values.proofs.CallerLemmas.{fact_order_is}
use Rattle.rif_facts.proofs.KeyedLemmas.{updated_from, marked_after_remove}
use Rattle.rif_facts.proofs.marked.MarkedFacts.take.Goals as goal

pub invariant_of-self : goal.invariant_of-self
invariant_of-self c =
    marked_after_remove _ fact_order_is c.self.inside.entries.entries c.remove.new.self.entries _
    c.remove.ensures.entries c.self.invariant c.remove.ensures.ordered

pub returns-clause-marks : goal.returns-clause-marks
returns-clause-marks c =
    updated_from _ fact_order_is c.args.self.now c.self.inside.entries.entries c.remove.new.self.entries
    c.args.fact.now None c.self.view_is c.remove.ensures.updates.0

pub returns-clause-marked : goal.returns-clause-marked
returns-clause-marked c =
    marked_after_remove _ fact_order_is c.self.inside.entries.entries c.remove.new.self.entries _
    c.remove.ensures.entries c.self.invariant c.remove.ensures.ordered
