use Rattle.std.proofs.Common.{◌≡◌, Some, take}
use Rattle.prd_recognition.specs.Following.{after, at_first}
use Rattle.prd_grammar.specs.Progress.{at_start, names_read, progress_of}
use Rattle.prd_recognition.specs.Reached.{progress_seen}
use Rattle.prd_grammar.specs.Refusals.{IsClear}
use Rattle.prd_recognition.proofs.recognizing.recognize_from.Given as goal

abbrev pub invariant-loop-place : goal.invariant-loop-place
invariant-loop-place l = record {
  followed : after at_first (take l.place l.leaves) ≡ Some l.stack.items;
  seen : progress_seen l.reading ≡ progress_of (take l.place l.leaves);
  clear : IsClear l.leaves l.place;
  read : l.names ≡ names_read at_start (take l.place l.leaves);
}
