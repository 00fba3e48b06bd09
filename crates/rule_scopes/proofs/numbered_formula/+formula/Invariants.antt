use Rattle.std.proofs.Common.{◌≡◌, ◌++◌, take, drop, map, length}
use Rattle.std.specs.List.{flat_map}
use Rattle.rule_scopes.specs.Numbering.{declared_in, each_form, numbering_of}
use Rattle.rule_scopes.proofs.numbered_formula.+formula.Given as goal

abbrev pub invariant-push_numbered-loop-formula : goal.invariant-push_numbered-loop-formula
invariant-push_numbered-loop-formula l = record {
  made : l.made.items
      ++ each_form (map numbering_of (drop l.formula-index l.formulas)) l.scope (length l.declared.items)
      ≡ l.fn.made.items ++ each_form (map numbering_of l.formulas) l.scope (length l.fn.declared.items);
  declared : l.declared.items ≡ l.fn.declared.items ++ flat_map declared_in (take l.formula-index l.formulas);
}
