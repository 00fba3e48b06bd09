use Rattle.std.proofs.Common.{◌≡◌, take}
use Rattle.std.specs.List.{flat_map}
use Rattle.rule_scopes.specs.Misplaced.{seen_all}
use Rattle.rule_scopes.specs.Occurrences.{occurrences_in}
use Rattle.rule_scopes.proofs.occurrences.+occurrences.Given as goal

abbrev pub invariant-see_formulas-loop-formula : goal.invariant-see_formulas-loop-formula
invariant-see_formulas-loop-formula l =
    l.found ≡ seen_all l.fn.found (flat_map (occurrences_in l.held) (take l.formula-index l.formulas))
