use Rattle.std.proofs.Common.{◌≡◌, cond, Some, false, ap, ◌∙◌}
use Rattle.rif_values.specs.declared.fact.Fact.{Fact}
use Rattle.rif_values.specs.Facts.{has_fact}
use Rattle.rif_facts.specs.Marks.{mark_at}
use Rattle.rif_facts.proofs.LoopsLemmas.{written_more, not_before, has_at, has_first, on_err}
use Rattle.rif_facts.proofs.indexed.IndexedFacts.put_all.Goals as goal

pub put-requires : goal.put-requires
put-requires c =
    let f = c.fact-item.result in
    let facts = c.args.facts.now in
    let before = not_before facts c.loop-fact.fact-index f c.requires.set c.loop-fact-test.true c.fact-item.is in
    c.loop-fact.invariant f
    ∙ ap (λ b. cond b (Some false) (mark_at c.args.self.now f)) before
    ∙ c.requires.new f (has_at facts c.loop-fact.fact-index f c.loop-fact-test.true c.fact-item.is)

pub returns-in_err-put-clause-err : goal.returns-in_err-put-clause-err
returns-in_err-put-clause-err c =
    on_err c.from_residual.result ((q : Fact) → has_fact c.args.facts.now q ≡ false
    → mark_at c.put.new.self q ≡ mark_at c.args.self.now q) (λ q absent.
    c.in_err-put.ensures.err q ∙ c.loop-fact.invariant q
    ∙ ap (λ b. cond b (Some false) (mark_at c.args.self.now q))
    (has_first c.args.facts.now c.loop-fact.fact-index q absent))

pub loop-fact-preserved : goal.loop-fact-preserved
loop-fact-preserved c =
    λ q.
    written_more c.args.facts.now c.loop-fact.fact-index c.fact-item.result q (Some false) (mark_at c.args.self.now q)
    (mark_at c.loop-fact.self q) (mark_at c.put.new.self q) c.loop-fact-test.true c.fact-item.is
    (c.in_ok-put.ensures.ok q) (c.loop-fact.invariant q)
