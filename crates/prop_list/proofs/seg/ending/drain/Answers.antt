use Rattle.prop_list.proofs.SegSteps.{take_owed, learn_owed}
use Rattle.prop_list.proofs.seg.ending.drain.Goals as goal

pub pop_as-requires-clause-rule : goal.pop_as-requires-clause-rule
pop_as-requires-clause-rule g c =
    let now = c.loop-entry.invariant in
    (take_owed _ _ now.first now.taker, learn_owed _ _ now.first now.taker)
