use Rattle.std.proofs.Common.{sym}
use Rattle.prop_list.proofs.SegSteps.{push_owed}
use Rattle.prop_list.proofs.seg.calls.ListPropagation.push.Goals as goal

pub push_as-requires-clause-rule : goal.push_as-requires-clause-rule
push_as-requires-clause-rule g c =
    let seat = c.args.seat.now in λ most. push_owed most _ seat.pass.me.view.client _ seat.idle.2 (sym seat.own.0)
