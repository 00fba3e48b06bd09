use Rattle.prop_list.proofs.SegSteps.{opens}
use Rattle.prop_list.proofs.seg.seats.List.new.Goals as goal

pub with_rule-requires : goal.with_rule-requires
with_rule-requires c = opens
