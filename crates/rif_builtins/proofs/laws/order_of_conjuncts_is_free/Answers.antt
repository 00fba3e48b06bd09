use Rattle.rif_builtins.proofs.TruthLawLemmas.{order_free}
use Rattle.rif_builtins.proofs.laws.order_of_conjuncts_is_free.Goals as goal

pub returns : goal.returns
returns c = order_free
