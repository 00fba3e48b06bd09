use Rattle.std.proofs.Common.{◌≡◌, ◌++◌, take, flat_map}
use Rattle.rif_values.specs.Writing.{after_space}
use Rattle.rif_values.proofs.writing.push_after_spaces.Given as goal

abbrev pub invariant-loop-value : goal.invariant-loop-value
invariant-loop-value l = l.out.items ≡ l.fn.out.items ++ flat_map after_space (take l.value-index l.all)
