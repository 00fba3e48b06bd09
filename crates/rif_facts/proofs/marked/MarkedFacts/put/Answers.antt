use Rattle.std.proofs.Common.{false, Some}
use Rattle.rif_values.proofs.CallerLemmas.{fact_order_is}
use Rattle.rif_facts.proofs.KeyedLemmas.{updated_from, marked_after_insert}
use Rattle.rif_facts.proofs.marked.MarkedFacts.put.Goals as goal

pub invariant_of-self-2 : goal.invariant_of-self-2
invariant_of-self-2 c =
    marked_after_insert _ fact_order_is c.self.inside.entries.entries c.insert.new.self.entries c.args.fact false
    c.in_ok-insert.ensures.entries c.read_range.ensures c.self.invariant c.in_ok-insert.ensures.ordered

pub returns-clause-ok : goal.returns-clause-ok
returns-clause-ok c =
    updated_from _ fact_order_is c.args.self.now c.self.inside.entries.entries c.insert.new.self.entries c.args.fact
    (Some false) c.self.view_is c.in_ok-insert.ensures.updates.0

pub returns-clause-marked : goal.returns-clause-marked
returns-clause-marked c =
    marked_after_insert _ fact_order_is c.self.inside.entries.entries c.insert.new.self.entries c.args.fact false
    c.in_ok-insert.ensures.entries c.read_range.ensures c.self.invariant c.in_ok-insert.ensures.ordered
