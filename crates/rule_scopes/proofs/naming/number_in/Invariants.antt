use Rattle.std.proofs.Common.{◌≡◌, drop}
use Rattle.std.specs.Prelude.{unwrap_or}
use Rattle.rule_scopes.specs.Numbering.{innermost, number_in}
use Rattle.rule_scopes.proofs.naming.number_in.Given as goal

abbrev pub invariant-loop-naming : goal.invariant-loop-naming
invariant-loop-naming l = unwrap_or (innermost (drop l.naming-index l.scope) l.var) l.number ≡ number_in l.scope l.var
