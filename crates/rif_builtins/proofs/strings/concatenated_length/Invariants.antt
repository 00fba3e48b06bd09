use Rattle.std.proofs.Common.{◌≡◌, ◌≤◌, drop}
use Rattle.rif_builtins.specs.declared.strings.TheConstants.{MOST_CONCAT_BYTES}
use Rattle.rif_builtins.proofs.StringLemmas.{length_behind}
use Rattle.rif_builtins.proofs.strings.concatenated_length.Given as goal

abbrev pub invariant-loop-argument : goal.invariant-loop-argument
invariant-loop-argument l = record {
  within : l.total ≤ MOST_CONCAT_BYTES;
  same : length_behind l.total (drop l.argument-index l.arguments) ≡ length_behind 0 l.arguments;
}
