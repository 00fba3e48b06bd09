use Rattle.std.proofs.Common.{◌≡◌, ◌+◌, ◌-◌, ◌≤◌, ◌++◌, drop, length, take}
use Rattle.rif_script.specs.Jobs.{document_text, lines_before, lines_of, script_lines}
use Rattle.rif_script.proofs.document_part.parts_of.Given as goal

abbrev pub invariant-loop-at : goal.invariant-loop-at
invariant-loop-at l = record {
  within : l.at ≤ length l.bytes;
  document : document_text l.bytes ≡ take l.at l.bytes ++ document_text (drop l.at l.bytes);
  counted : lines_before (lines_of l.bytes) ≡ l.lines + lines_before (lines_of (drop l.at l.bytes));
  few : l.lines ≤ l.at;
  script : script_lines l.bytes ≡ script_lines (drop l.at l.bytes);
}

abbrev pub decreases-loop-at : goal.decreases-loop-at
decreases-loop-at l = length l.bytes - l.at
