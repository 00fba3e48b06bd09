use Rattle.std.proofs.Common.{◌≡◌, ◌++◌, drop}
use Rattle.rule_scopes.specs.Numbering.{namings_from}
use Rattle.rule_scopes.proofs.naming.namings_from.Given as goal

abbrev pub invariant-loop-var : goal.invariant-loop-var
invariant-loop-var l = l.namings.items ++ namings_from l.number (drop l.var-index l.vars) ≡ namings_from l.next l.vars
