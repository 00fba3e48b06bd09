use Rattle.std.proofs.Common.{None}
use Rattle.rif_facts.specs.Marks.{mark_at}
use Rattle.rif_facts.proofs.LoopsLemmas.{written_more}
use Rattle.rif_facts.proofs.indexed.IndexedFacts.take_all.Goals as goal

pub loop-fact-preserved : goal.loop-fact-preserved
loop-fact-preserved c =
    λ q.
    written_more c.args.facts.now c.loop-fact.fact-index c.fact-item.result q None (mark_at c.args.self.now q)
    (mark_at c.loop-fact.self q) (mark_at c.take.new.self q) c.loop-fact-test.true c.fact-item.is (c.take.ensures q)
    (c.loop-fact.invariant q)
