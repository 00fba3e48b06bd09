use Rattle.rif_values.proofs.OrderLemmas.{are_total}
use Rattle.rif_values.proofs.laws.orders_are_total.Goals as goal

pub returns : goal.returns
returns c = are_total
