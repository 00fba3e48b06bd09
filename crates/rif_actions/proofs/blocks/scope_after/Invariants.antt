use Rattle.std.proofs.Common.{◌≡◌, ◌≤◌, ◌^◌, drop}
use Rattle.rif_actions.specs.Blocks.{after_decls}
use Rattle.rif_actions.proofs.blocks.scope_after.Given as goal

abbrev pub invariant-loop-decl : goal.invariant-loop-decl
invariant-loop-decl l = record {
  so_far : after_decls l.facts.list (drop l.decl-index l.decls) l.scope ≡ after_decls l.facts.list l.decls l.fn.start;
  made : l.scope.made ≤ 2 ^ 63;
}
