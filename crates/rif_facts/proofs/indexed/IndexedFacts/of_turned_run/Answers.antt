use Rattle.rif_facts.proofs.TurnedLemmas.{turned_found}
use Rattle.rif_facts.proofs.indexed.IndexedFacts.of_turned_run.Goals as goal

pub returns : goal.returns
returns c =
    turned_found c.args.run c.requires c.self.inside.facts c.args.self.now c.self.inside.turned
    c.loop-fact.found.items
    c.deref-fact-items.result.now c.in_ok-all.all.items c.loop-fact.fact-index c.loop-fact.invariant
    c.loop-fact-test.false c.deref-fact-items.ensures.value c.in_ok-all.ensures.facts c.self.invariant.turned
    c.self.invariant.marked c.of_run.ensures.marked c.self.view_is
