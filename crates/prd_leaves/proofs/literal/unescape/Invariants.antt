use Rattle.std.proofs.Common.{◌≡◌, ◌++◌, drop}
use Rattle.prd_leaves.specs.Literals.{unescaped_from, unescaped}
use Rattle.prd_leaves.proofs.literal.unescape.Given as goal

abbrev pub invariant-loop-byte : goal.invariant-loop-byte
invariant-loop-byte l = l.made.items ++ unescaped_from l.escape (drop l.byte-index l.text) ≡ unescaped l.text
