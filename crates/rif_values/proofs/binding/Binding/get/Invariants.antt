use Rattle.std.proofs.Common.{◌≡◌, drop}
use Rattle.rif_values.specs.Bindings.{value_at}
use Rattle.rif_values.proofs.binding.Binding.get.Given as goal

abbrev pub invariant-loop-pair : goal.invariant-loop-pair
invariant-loop-pair l = value_at (drop l.pair-index l.pair-items) l.var ≡ value_at l.pair-items l.var
