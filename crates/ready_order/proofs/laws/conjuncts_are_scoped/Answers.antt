use Rattle.ready_order.proofs.KeepingLemmas.{conjuncts_scoped}
use Rattle.ready_order.proofs.laws.conjuncts_are_scoped.Goals as goal

pub returns : goal.returns
returns c = conjuncts_scoped
