use Rattle.std.proofs.Common.{◌≡◌, take}
use Rattle.std.specs.List.{flat_map}
use Rattle.rule_scopes.proofs.numbered_rule.forall_variables.Given as goal

abbrev pub invariant-loop-level : goal.invariant-loop-level
invariant-loop-level l = l.vars.items ≡ flat_map (λ level. level.vars) (take l.level-index l.levels)
