use Rattle.prop_list.proofs.SegSteps.{take_owed, learn_owed}
use Rattle.prop_list.proofs.seg.calls.ListPropagation.next.Goals as goal

pub pop_as-requires-clause-rule : goal.pop_as-requires-clause-rule
pop_as-requires-clause-rule g c =
    let idle = c.args.taker.now.idle in (take_owed _ _ idle.0 idle.3, learn_owed _ _ idle.0 idle.3)
