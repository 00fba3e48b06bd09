use Rattle.std.proofs.Common.{◌≡◌, map, take}
use Rattle.rif_facts.specs.Marks.{turned}
use Rattle.rif_facts.proofs.indexed.IndexedFacts.of_turned_run.Given as goal

abbrev pub invariant-loop-fact : goal.invariant-loop-fact
invariant-loop-fact l = l.found.items ≡ map turned (take l.fact-index l.fact-items)
