use Rattle.std.proofs.Common.{◌≡◌, ◌&&◌, take, if◌then◌else◌, Some, true, is_some}
use Rattle.rif_values.specs.declared.fact.Fact.{Fact}
use Rattle.rif_values.specs.Facts.{has_fact}
use Rattle.rif_facts.specs.Marks.{mark_at}
use Rattle.rif_facts.proofs.indexed.IndexedFacts.count_all.Given as goal

abbrev pub invariant-loop-fact : goal.invariant-loop-fact
invariant-loop-fact l = (q : Fact) → mark_at l.self q
    ≡ (if has_fact (take l.fact-index l.facts) q && is_some (mark_at l.fn.self q)
    then Some true
    else mark_at l.fn.self q)
