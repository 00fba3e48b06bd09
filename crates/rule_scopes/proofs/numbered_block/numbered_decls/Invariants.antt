use Rattle.std.proofs.Common.{◌≡◌, ◌++◌, take, drop, map, length}
use Rattle.safe_rules.specs.BlockScope.{decl_variable}
use Rattle.rule_scopes.specs.Numbering.{namings_from, numbered_decls}
use Rattle.rule_scopes.proofs.numbered_block.numbered_decls.Given as goal

abbrev pub invariant-loop-decl : goal.invariant-loop-decl
invariant-loop-decl l = record {
  decls : l.all.items ++ numbered_decls l.scope.items (length l.declared.items) (drop l.decl-index l.decls)
      ≡ numbered_decls l.fn.scope.items (length l.fn.declared.items) l.decls;
  scope : l.scope.items ++ namings_from (length l.declared.items) (map decl_variable (drop l.decl-index l.decls))
      ≡ l.fn.scope.items ++ namings_from (length l.fn.declared.items) (map decl_variable l.decls);
  declared : l.declared.items ≡ l.fn.declared.items ++ map decl_variable (take l.decl-index l.decls);
}
