-- A number that only rises.
-- Source: the project's own.
use Rattle.std.specs.Prelude.{◌+◌}
use Rattle.prop_list.specs.declared.tally.Count.{Count}

abbrev pub raised : Count → Count
raised count = record { number = count.number + 1 }
