use Rattle.std.proofs.Common.{◌≡◌, take}
use Rattle.rif_tree.proofs.copying.copy_items.Given as goal

abbrev pub invariant-loop-item : goal.invariant-loop-item
invariant-loop-item g l = l.items.items ≡ take l.item-index l.all
