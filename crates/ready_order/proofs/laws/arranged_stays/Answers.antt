use Rattle.ready_order.proofs.StayingLemmas.{arranged_stays}
use Rattle.ready_order.proofs.laws.arranged_stays.Goals as goal

pub returns : goal.returns
returns c = arranged_stays
