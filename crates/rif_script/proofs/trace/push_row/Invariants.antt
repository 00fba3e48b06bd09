use Rattle.std.proofs.Common.{◌≡◌, ◌++◌, flat_map}
use Rattle.safe_rules.specs.Numbers.{numbers_below}
use Rattle.rif_script.specs.Trace.{text_of_variable}
use Rattle.rif_script.proofs.trace.push_row.Given as goal

abbrev pub invariant-loop-var : goal.invariant-loop-var
invariant-loop-var l =
    l.out.items ≡ l.fn.out.items ++ flat_map (text_of_variable l.rule l.row) (numbers_below l.var)
