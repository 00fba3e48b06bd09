use Rattle.std.proofs.Common.{◌≡◌, drop}
use Rattle.rule_scopes.specs.Misplaced.{seen_all}
use Rattle.rule_scopes.specs.Occurrences.{block_occurrences}
use Rattle.rule_scopes.proofs.occurrences.see_block.Given as goal

abbrev pub invariant-loop-decl : goal.invariant-loop-decl
invariant-loop-decl l =
    seen_all l.found (block_occurrences l.inside.items (drop l.decl-index l.rule.decls) l.rule.actions)
    ≡ seen_all l.fn.found (block_occurrences l.fn.held.items l.rule.decls l.rule.actions)
