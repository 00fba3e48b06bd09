use Rattle.rif_facts.specs.Marks.{mark_at}
use Rattle.rif_facts.proofs.LoopsLemmas.{counted_more}
use Rattle.rif_facts.proofs.indexed.IndexedFacts.count_all.Goals as goal

pub loop-fact-preserved : goal.loop-fact-preserved
loop-fact-preserved c =
    λ q.
    counted_more c.args.facts.now c.loop-fact.fact-index c.fact-item.result q (mark_at c.args.self.now q)
    (mark_at c.loop-fact.self q) (mark_at c.count.new.self q) c.loop-fact-test.true c.fact-item.is (c.count.ensures q)
    (c.loop-fact.invariant q)
