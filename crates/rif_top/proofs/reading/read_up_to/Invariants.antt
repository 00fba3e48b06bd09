use Rattle.std.proofs.Common.{◌≡◌, ◌≤◌, ◌-◌, vec_len}
use Rattle.std.specs.Io.KnownBytes.{Consumes}
use Rattle.rif_top.proofs.reading.read_up_to.Given as goal

abbrev pub invariant-loop-chunk : goal.invariant-loop-chunk
invariant-loop-chunk g l = record {
  within : vec_len l.input ≤ l.most;
  count_stands : g.S.Source.faults l.source ≡ g.S.Source.faults l.fn.source;
  took_front : Consumes (g.S.Source.left l.fn.source) (g.S.Source.left l.source) l.input.items;
}

abbrev pub decreases-loop-chunk : goal.decreases-loop-chunk
decreases-loop-chunk g l = l.most - vec_len l.input
