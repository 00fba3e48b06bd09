use Rattle.std.proofs.Common.{arith, refl}
use Rattle.atomic_table.specs.Table.{keeps}
use Rattle.prop_list.specs.Tallies.{raised}
use Rattle.prop_list.proofs.tally.raise.Goals as goal

pub load-requires : goal.load-requires
load-requires c =
    (c.requires.0, omega (arith, c.requires.1), λ s _ _ _ _. (raised c.args.seat.now.me.0, keeps, tt, tt, refl))
