use Rattle.std.proofs.Common.{◌∙◌}
use Rattle.rif_values.proofs.CallerLemmas.{fact_order_is}
use Rattle.rif_facts.proofs.RunsLemmas.{walk_begins}
use Rattle.rif_facts.proofs.marked.MarkedFacts.of_run.Goals as goal

pub loop-fact-init : goal.loop-fact-init
loop-fact-init c =
    walk_begins _ fact_order_is c.args.run.now c.in_ok-first.first c.in_ok-first.ensures c.self.inside.entries.entries
    c.args.self.now c.into_iter-fact-iterator.result c.new-found.result.items c.new-found.ensures.items
    c.self.view_is c.self.invariant (c.into_iter-fact-iterator.ensures.into_iter_gives
    ∙ c.range-fact-items.ensures.between tt)
