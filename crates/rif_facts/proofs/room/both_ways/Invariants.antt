use Rattle.std.proofs.Common.{◌≡◌, take}
use Rattle.rif_facts.proofs.room.both_ways.Given as goal

abbrev pub invariant-loop-fact : goal.invariant-loop-fact
invariant-loop-fact l = l.list.items ≡ take l.fact-index l.facts
