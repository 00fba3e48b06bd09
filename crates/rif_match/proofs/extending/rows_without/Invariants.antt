use Rattle.std.proofs.Common.{◌≡◌, take, map}
use Rattle.rif_values.specs.Bindings.{without_variables}
use Rattle.rif_match.proofs.extending.rows_without.Given as goal

abbrev pub invariant-loop-row : goal.invariant-loop-row
invariant-loop-row l = l.all.items ≡ map (without_variables l.vars) (take l.row-index l.rows)
