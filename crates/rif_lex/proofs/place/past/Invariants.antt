use Rattle.std.proofs.Common.{◌≡◌, ◌+◌, drop}
use Rattle.rif_lex.specs.Places.{place_past}
use Rattle.rif_lex.specs.Scanning.{IsCounted}
use Rattle.rif_lex.proofs.place.past.Given as goal

abbrev pub invariant-loop-byte : goal.invariant-loop-byte
invariant-loop-byte l = record {
  offset : l.place.offset ≡ l.fn.from.offset + l.byte-index;
  counted : IsCounted l.place;
  so_far : place_past l.place (drop l.byte-index l.bytes) ≡ place_past l.fn.from l.bytes;
}
