-- The order of rule instances: by rule, then by binding.
-- Source: the project's own (docs/PROFILE.md, "Order").
use Rattle.std.specs.declared.cmp.Ordering.{Ordering}
use Rattle.std.specs.Ordering.{ordering_then, nat_cmp}
use Rattle.rif_values.specs.declared.instance.Instance.{Instance}
use Rattle.rif_values.specs.Order.{binding_cmp}

abbrev pub instance_cmp : Instance → Instance → Ordering
instance_cmp a b = ordering_then (nat_cmp a.rule b.rule) (binding_cmp a.row b.row)
