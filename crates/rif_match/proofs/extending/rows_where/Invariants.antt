use Rattle.std.proofs.Common.{◌≡◌, take, filter}
use Rattle.rif_builtins.specs.Extensions.{holds_at}
use Rattle.rif_builtins.specs.Values.{values_of}
use Rattle.rif_match.proofs.extending.rows_where.Given as goal

abbrev pub invariant-loop-row : goal.invariant-loop-row
invariant-loop-row l = l.all.items ≡ filter (λ row. holds_at l.pred (values_of row l.terms)) (take l.row-index l.rows)
