use Rattle.std.proofs.Common.{◌≡◌, ◌++◌, filter}
use Rattle.rif_facts.specs.Marks.{counted}
use Rattle.rif_facts.specs.Runs.{is_in_run, walked}
use Rattle.rif_facts.proofs.marked.MarkedFacts.of_run.Given as goal

abbrev pub invariant-loop-fact : goal.invariant-loop-fact
invariant-loop-fact l =
    l.found.items ++ walked (is_in_run l.run) l.fact-iterator ≡ filter (is_in_run l.run) (counted l.self)
