-- What the orders of constants, facts, bindings and instances keep.
-- Source: the project's own (docs/PROFILE.md, "Order").
use Rattle.std.specs.Cmp.{IsTotalOrder}
use Rattle.rif_values.specs.Order.{const_cmp, fact_cmp, binding_cmp}
use Rattle.rif_values.specs.InstanceOrder.{instance_cmp}
use Rattle.rif_values.specs.Sets.{IsExact}

pub record AreTotal : Type 0 where
  pub constants : IsTotalOrder const_cmp
  pub facts : IsTotalOrder fact_cmp
  pub bindings : IsTotalOrder binding_cmp
  pub instances : IsTotalOrder instance_cmp

-- what compares alike is the same
pub record TellAllApart : Type 0 where
  pub constants : IsExact const_cmp
  pub facts : IsExact fact_cmp
  pub bindings : IsExact binding_cmp
  pub instances : IsExact instance_cmp
