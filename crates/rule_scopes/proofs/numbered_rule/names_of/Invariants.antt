use Rattle.std.proofs.Common.{◌≡◌, take, map}
use Rattle.rif_tree.specs.Rules.{name_of}
use Rattle.rule_scopes.proofs.numbered_rule.names_of.Given as goal

abbrev pub invariant-loop-var : goal.invariant-loop-var
invariant-loop-var l = l.all.items ≡ map (name_of l.names) (take l.var-index l.vars)
