use Rattle.rif_values.proofs.OrderLemmas.{const_order_is, fact_order_is, binding_order_is, instance_order_is}
use Rattle.rif_values.proofs.laws.derived_orders_are_the_stated_ones.Goals as goal

pub returns : goal.returns
returns c = record {
  constants = const_order_is;
  facts = fact_order_is;
  bindings = binding_order_is;
  instances = instance_order_is;
}
