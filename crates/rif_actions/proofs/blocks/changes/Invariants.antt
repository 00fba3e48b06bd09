use Rattle.std.proofs.Common.{◌≡◌, ◌++◌, drop}
use Rattle.std.specs.Option.{option_map}
use Rattle.rif_actions.specs.Blocks.{changes_of}
use Rattle.rif_actions.proofs.blocks.changes.Given as goal

abbrev pub invariant-loop-action : goal.invariant-loop-action
invariant-loop-action l =
    option_map (λ more. l.list.items ++ more) (changes_of l.row (drop l.action-index l.actions)) ≡ changes_of l.row
    l.actions
