use Rattle.std.proofs.Common.{◌≡◌, drop}
use Rattle.prd_leaves.specs.Literals.{are_name_characters}
use Rattle.prd_leaves.proofs.literal.are_name_characters.Given as goal

abbrev pub invariant-loop-at : goal.invariant-loop-at
invariant-loop-at l = are_name_characters (drop l.at l.text) ≡ are_name_characters l.text
