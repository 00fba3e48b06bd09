use Rattle.std.proofs.Common.{◌≡◌, ◌++◌, drop}
use Rattle.std.specs.Option.{option_map}
use Rattle.rif_actions.specs.Blocks.{slot_changes}
use Rattle.rif_actions.specs.Uses.{frame_change}
use Rattle.rif_actions.proofs.blocks.changes_of_slots.Given as goal

abbrev pub invariant-loop-pair : goal.invariant-loop-pair
invariant-loop-pair l =
    option_map (λ more. l.list.items ++ more)
    (slot_changes (frame_change l.way) l.row l.object (drop l.pair-index l.pairs))
    ≡ slot_changes (frame_change l.way) l.row l.object l.pairs
