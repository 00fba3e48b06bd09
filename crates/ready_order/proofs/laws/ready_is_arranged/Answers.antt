use Rattle.ready_order.proofs.StayingLemmas.{ready_arranged}
use Rattle.ready_order.proofs.laws.ready_is_arranged.Goals as goal

pub returns : goal.returns
returns c = ready_arranged
