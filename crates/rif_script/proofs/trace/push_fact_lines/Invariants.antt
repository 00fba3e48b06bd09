use Rattle.std.proofs.Common.{◌≡◌, ◌++◌, take, flat_map}
use Rattle.rif_script.specs.Trace.{fact_line}
use Rattle.rif_script.proofs.trace.push_fact_lines.Given as goal

abbrev pub invariant-loop-fact : goal.invariant-loop-fact
invariant-loop-fact l = l.out.items ≡ l.fn.out.items ++ flat_map (fact_line l.sign) (take l.fact-index l.facts)
