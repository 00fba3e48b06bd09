use Rattle.std.proofs.Common.{◌∙◌}
use Rattle.prd_writing.specs.Canonical.{pair_spelling}
use Rattle.prd_writing.proofs.WritingLemmas.{item_written, items_written}
use Rattle.prd_writing.proofs.atomic.push_pairs.Goals as goal

pub loop-pair-preserved : goal.loop-pair-preserved
loop-pair-preserved c = λ rest.
    item_written (pair_spelling c.args.names.now) c.args.pairs.now c.loop-pair.pair-index c.pair-item.result
    c.loop-pair.is_first
    c.loop-pair.out.items c.push_space.new.out.items c.push_pair.new.out.items c.loop-pair-test.true c.pair-item.is
    c.in_ok-push_space.ensures c.in_ok-push_pair.ensures rest
    ∙ c.loop-pair.invariant rest

pub returns : goal.returns
returns c = λ rest.
    items_written (pair_spelling c.args.names.now) c.args.pairs.now c.loop-pair.pair-index c.loop-pair.is_first
    c.args.out.now.items c.loop-pair.out.items c.loop-pair-test.false rest (c.loop-pair.invariant rest)
