use Rattle.rif_values.proofs.OrderLemmas.{tell_all_apart}
use Rattle.rif_values.proofs.laws.orders_tell_all_apart.Goals as goal

pub returns : goal.returns
returns c = tell_all_apart
