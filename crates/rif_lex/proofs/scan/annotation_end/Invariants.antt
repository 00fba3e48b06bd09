use Rattle.std.proofs.Common.{length, ◌-◌, ◌≡◌, ◌≤◌, drop}
use Rattle.rif_lex.specs.Pieces.{annotation_length, longer}
use Rattle.rif_lex.proofs.scan.annotation_end.Given as goal

abbrev pub invariant-loop-at : goal.invariant-loop-at
invariant-loop-at l = record {
  low : l.fn.from ≤ l.at;
  high : l.at ≤ length l.text;
  so_far : longer l.at (annotation_length (drop l.at l.text))
      ≡ longer l.fn.from (annotation_length (drop l.fn.from l.text));
}

abbrev pub decreases-loop-at : goal.decreases-loop-at
decreases-loop-at l = length l.text - l.at
