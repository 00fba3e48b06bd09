use Rattle.std.proofs.Common.{◌≡◌, ◌++◌, drop, map, length}
use Rattle.std.specs.List.{flat_map}
use Rattle.rule_scopes.specs.Numbering.{declared_in, each_form, numbering_of}
use Rattle.rule_scopes.proofs.numbered_rule.push_levels.Given as goal

abbrev pub invariant-loop-level : goal.invariant-loop-level
invariant-loop-level l =
    let rest = flat_map (λ level. level.such_that) (drop l.level-index l.levels) in
    let all = flat_map (λ level. level.such_that) l.levels in record {
      made : l.made.items ++ each_form (map numbering_of rest) l.scope (length l.declared.items)
          ≡ l.fn.made.items ++ each_form (map numbering_of all) l.scope (length l.fn.declared.items);
      declared : l.declared.items ++ flat_map declared_in rest ≡ l.fn.declared.items ++ flat_map declared_in all;
    }
