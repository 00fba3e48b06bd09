use Rattle.std.proofs.Common.{◌≡◌, take}
use Rattle.rule_scopes.specs.Numbering.{numbers_of}
use Rattle.rule_scopes.proofs.naming.numbers_of.Given as goal

abbrev pub invariant-loop-naming : goal.invariant-loop-naming
invariant-loop-naming l = l.numbers.items ≡ numbers_of (take l.naming-index l.namings)
