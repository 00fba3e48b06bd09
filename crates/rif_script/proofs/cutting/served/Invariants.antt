use Rattle.std.proofs.Common.{◌≡◌, ◌+◌, drop}
use Rattle.rif_script.specs.Cutting.{served_count}
use Rattle.rif_script.proofs.cutting.served.Given as goal

abbrev pub invariant-loop-before : goal.invariant-loop-before
invariant-loop-before l = l.before + served_count (drop l.before l.entries) ≡ served_count l.entries
