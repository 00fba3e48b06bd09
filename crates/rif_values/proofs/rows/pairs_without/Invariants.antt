use Rattle.std.proofs.Common.{◌≡◌, take}
use Rattle.rif_values.specs.Bindings.{without_variables}
use Rattle.rif_values.proofs.rows.pairs_without.Given as goal

abbrev pub invariant-loop-pair : goal.invariant-loop-pair
invariant-loop-pair l = l.items.items ≡ without_variables l.vars (take l.pair-index l.pairs)
