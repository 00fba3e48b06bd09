use Rattle.ready_order.proofs.ScopeLemmas.{arrangement_scoped}
use Rattle.ready_order.proofs.laws.arrangement_is_scoped.Goals as goal

pub returns : goal.returns
returns c = arrangement_scoped
