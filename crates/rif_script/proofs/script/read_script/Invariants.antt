use Rattle.std.proofs.Common.{◌≡◌, ◌+◌, ◌<◌, ◌≤◌, ◌^◌, length}
use Rattle.rif_refusals.specs.Limits.{most_clients}
use Rattle.rif_script.specs.Jobs.{lines_of}
use Rattle.rif_script.specs.ReadingLines.{no_lines, with_lines}
use Rattle.rif_script.proofs.script.read_script.Given as goal

abbrev pub invariant-loop-rest : goal.invariant-loop-rest
invariant-loop-rest l = record {
  few : length l.script.names ≤ most_clients;
  counted : l.number + length l.rest < 2 ^ 64;
  lines : with_lines l.prefixes l.first no_lines (lines_of l.text)
      ≡ with_lines l.prefixes l.number l.script (lines_of l.rest);
}

abbrev pub decreases-loop-rest : goal.decreases-loop-rest
decreases-loop-rest l = length l.rest
