-- What the code tells of an arrangement.
--     arrangement_told d     the arrangement that a `Division` tells: it has the conjuncts that are left themselves
-- Source: our own (docs/PROFILE.md, "Ready order").
use Rattle.std.specs.Prelude.{map}
use Rattle.ready_order.specs.declared.division.Division.{Division}
use Rattle.ready_order.specs.Arranging.{Arrangement, piece_of}

abbrev pub arrangement_told : Division → Arrangement
arrangement_told d = record { taken = d.taken; left = map piece_of d.left; bound = d.bound }
