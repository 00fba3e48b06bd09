use Rattle.std.proofs.Common.{◌≡◌, take}
use Rattle.std.specs.List.{flat_map}
use Rattle.rif_tree.specs.Variables.{variables_of_pair}
use Rattle.rule_scopes.specs.Misplaced.{seen_used}
use Rattle.rule_scopes.proofs.variables.see_pairs.Given as goal

abbrev pub invariant-loop-pair : goal.invariant-loop-pair
invariant-loop-pair l =
    l.found ≡ seen_used l.fn.found l.held (flat_map variables_of_pair (take l.pair-index l.pairs))
