use Rattle.std.proofs.Common.{◌≡◌, take}
use Rattle.std.specs.List.{flat_map}
use Rattle.rif_tree.specs.Variables.{variables_of}
use Rattle.rule_scopes.specs.Misplaced.{seen_used}
use Rattle.rule_scopes.proofs.variables.+variables.Given as goal

abbrev pub invariant-see_each-loop-term : goal.invariant-see_each-loop-term
invariant-see_each-loop-term l =
    l.found ≡ seen_used l.fn.found l.held (flat_map variables_of (take l.term-index l.terms))
