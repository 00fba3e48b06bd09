use Rattle.std.proofs.Common.{◌≡◌, ◌++◌, take, drop}
use Rattle.std.specs.List.{flat_map}
use Rattle.rule_scopes.specs.Misplaced.{seen_all}
use Rattle.rule_scopes.specs.Occurrences.{levels_occurrences}
use Rattle.rule_scopes.proofs.occurrences.see_levels.Given as goal

abbrev pub invariant-loop-level : goal.invariant-loop-level
invariant-loop-level l = record {
  found : seen_all l.found (levels_occurrences l.held.items (drop l.level-index l.levels))
      ≡ seen_all l.fn.found (levels_occurrences l.fn.held.items l.levels);
  held : l.held.items ≡ l.fn.held.items ++ flat_map (λ level. level.vars) (take l.level-index l.levels);
}
