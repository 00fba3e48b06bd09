use Rattle.std.proofs.Common.{◌≡◌, ◌++◌, drop}
use Rattle.std.specs.Option.{option_map}
use Rattle.std.specs.String.{string_bytes}
use Rattle.rif_builtins.specs.Builtins.{concatenated}
use Rattle.rif_builtins.proofs.strings.concatenated.Given as goal

abbrev pub invariant-loop-argument : goal.invariant-loop-argument
invariant-loop-argument l =
    option_map (λ rest. string_bytes l.text ++ rest) (concatenated (drop l.argument-index l.arguments))
    ≡ concatenated l.arguments
