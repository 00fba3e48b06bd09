use Rattle.std.proofs.Common.{◌≡◌, take}
use Rattle.rif_builtins.specs.Extensions.{base_of, matched}
use Rattle.rif_match.proofs.extending.rows_matching.Given as goal

abbrev pub invariant-loop-row : goal.invariant-loop-row
invariant-loop-row l = l.all.items ≡ matched (base_of l.facts.list) l.pattern (take l.row-index l.rows)
