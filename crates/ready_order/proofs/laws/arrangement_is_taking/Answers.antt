use Rattle.ready_order.proofs.ArrangesLemmas.{taking_law}
use Rattle.ready_order.proofs.laws.arrangement_is_taking.Goals as goal

pub returns : goal.returns
returns c = taking_law
