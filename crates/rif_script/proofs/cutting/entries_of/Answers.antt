use Rattle.std.proofs.Common.{◌∙◌}
use Rattle.rif_script.proofs.RankLemmas.{counted_more, made_more}
use Rattle.rif_script.proofs.cutting.entries_of.Goals as goal

pub loop-client-preserved : goal.loop-client-preserved
loop-client-preserved c =
    let items = c.as_slice-client-items.result.now in
    let i = c.loop-client.client-index in
    record {
      made = made_more _ c.loop-client.entries.items c.push.new.self.items items i c.loop-client-item.result
          c.sent_so_far-rank.result c.in_ok-copy.field-0
          c.loop-client-test.true c.loop-client-item.is
          (c.sent_so_far-rank.ensures ∙ c.loop-client.invariant.counted c.loop-client-item.result.0)
          c.in_ok-copy.ensures c.in_ok-push.ensures.items c.loop-client.invariant.made;
      counted = counted_more items i c.loop-client-item.result c.loop-client.sent c.insert.new.self
          c.sent_so_far-rank.result c.loop-client-test.true c.loop-client-item.is c.in_ok-insert.ensures.updates
          c.loop-client.invariant.counted c.sent_so_far-rank.ensures;
    }
