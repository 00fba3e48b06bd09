use Rattle.std.proofs.Common.{◌≡◌, ◌≤◌, ◌-◌, length, take}
use Rattle.std.specs.Io.KnownBytes.{Appends}
use Rattle.rif_top.proofs.writing.write_text.Given as goal

abbrev pub invariant-loop-at : goal.invariant-loop-at
invariant-loop-at g l = record {
  within : l.at ≤ length l.text;
  count_stands : g.K.Sink.faults l.sink ≡ g.K.Sink.faults l.fn.sink;
  wrote_front : Appends (g.K.Sink.written l.fn.sink) (g.K.Sink.written l.sink) (take l.at l.text);
}

abbrev pub decreases-loop-at : goal.decreases-loop-at
decreases-loop-at g l = length l.text - l.at
