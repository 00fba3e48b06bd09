use Rattle.std.proofs.Common.{◌≡◌, drop}
use Rattle.rif_values.specs.Bindings.{value_at}
use Rattle.rif_builtins.proofs.valuing.bound_value.Given as goal

abbrev pub invariant-loop-pair : goal.invariant-loop-pair
invariant-loop-pair l = value_at (drop l.pair-index l.row) l.var ≡ value_at l.row l.var
