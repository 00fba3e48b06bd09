use Rattle.ready_order.proofs.GrowingLemmas.{growing_law}
use Rattle.ready_order.proofs.laws.arranging_grows.Goals as goal

pub returns : goal.returns
returns c = growing_law c.readiness_grows.ensures
