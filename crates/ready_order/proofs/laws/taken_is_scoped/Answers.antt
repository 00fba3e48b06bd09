use Rattle.ready_order.proofs.ScopeLemmas.{each_taken_scoped}
use Rattle.ready_order.proofs.laws.taken_is_scoped.Goals as goal

pub returns : goal.returns
returns c = each_taken_scoped
