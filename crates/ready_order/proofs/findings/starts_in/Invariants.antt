use Rattle.std.proofs.Common.{◌≡◌, ◌++◌, drop}
use Rattle.ready_order.specs.Findings.{starts_of}
use Rattle.ready_order.proofs.findings.starts_in.Given as goal

abbrev pub invariant-loop-formula : goal.invariant-loop-formula
invariant-loop-formula l =
    l.starts.items ++ starts_of l.start (drop l.formula-index l.formulas) ≡ starts_of 0 l.formulas
