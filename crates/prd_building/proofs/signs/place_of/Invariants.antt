use Rattle.std.proofs.Common.{◌≡◌, ◌+◌, drop}
use Rattle.prd_grammar.specs.Values.{place_of}
use Rattle.prd_building.proofs.signs.place_of.Given as goal

abbrev pub invariant-loop-known : goal.invariant-loop-known
invariant-loop-known l = l.place + place_of (drop l.known-index l.names) l.name ≡ place_of l.names l.name
