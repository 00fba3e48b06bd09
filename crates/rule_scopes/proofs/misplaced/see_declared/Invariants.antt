use Rattle.std.proofs.Common.{◌≡◌, ◌++◌, take, drop}
use Rattle.rule_scopes.specs.Misplaced.{seen_all}
use Rattle.rule_scopes.specs.Occurrences.{declared}
use Rattle.rule_scopes.proofs.misplaced.see_declared.Given as goal

abbrev pub invariant-loop-var : goal.invariant-loop-var
invariant-loop-var l = record {
  found : seen_all l.found (declared l.held.items (drop l.var-index l.vars))
      ≡ seen_all l.fn.found (declared l.fn.held.items l.vars);
  held : l.held.items ≡ l.fn.held.items ++ take l.var-index l.vars;
}
