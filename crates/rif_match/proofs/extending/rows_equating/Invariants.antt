use Rattle.std.proofs.Common.{◌≡◌, take, filter_map}
use Rattle.rif_builtins.specs.Extensions.{equal_row}
use Rattle.rif_match.proofs.extending.rows_equating.Given as goal

abbrev pub invariant-loop-row : goal.invariant-loop-row
invariant-loop-row l = l.all.items ≡ filter_map (equal_row l.left l.right) (take l.row-index l.rows)
