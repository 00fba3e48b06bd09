use Rattle.std.proofs.Common.{◌≡◌, ◌++◌, take, map}
use Rattle.rif_match.specs.ConflictSet.{instance_of}
use Rattle.rif_match.proofs.listing.push_instances.Given as goal

abbrev pub invariant-loop-row : goal.invariant-loop-row
invariant-loop-row l = l.all.items ≡ l.fn.all.items ++ map (instance_of l.rule) (take l.row-index l.rows)
