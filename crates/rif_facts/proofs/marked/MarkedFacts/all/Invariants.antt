use Rattle.std.proofs.Common.{◌≡◌, ◌++◌}
use Rattle.rif_facts.specs.Marks.{counted}
use Rattle.rif_facts.proofs.marked.MarkedFacts.all.Given as goal

abbrev pub invariant-loop-fact : goal.invariant-loop-fact
invariant-loop-fact l = l.found.items ++ counted l.fact-iterator ≡ counted l.self
