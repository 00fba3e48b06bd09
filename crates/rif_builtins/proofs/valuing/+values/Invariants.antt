use Rattle.std.proofs.Common.{◌≡◌, ◌++◌, drop, map}
use Rattle.std.specs.Option.{option_map}
use Rattle.rif_builtins.specs.Values.{value_of, values_of, all_of}
use Rattle.rif_builtins.proofs.valuing.+values.Given as goal

abbrev pub invariant-values_in-loop-term : goal.invariant-values_in-loop-term
invariant-values_in-loop-term l =
    option_map (λ more. l.items.items ++ more) (all_of (map (value_of l.row) (drop l.term-index l.terms))) ≡ values_of
    l.row l.terms
