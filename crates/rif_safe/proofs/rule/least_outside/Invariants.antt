use Rattle.std.proofs.Common.{◌≡◌, ◌-◌}
use Rattle.rif_tree.specs.Variables.{without}
use Rattle.ready_order.specs.Arranging.{least_of}
use Rattle.safe_rules.specs.Numbers.{numbers_below, numbers_from}
use Rattle.rif_safe.proofs.rule.least_outside.Given as goal

abbrev pub invariant-loop-var : goal.invariant-loop-var
invariant-loop-var l =
    least_of (without l.bound (numbers_below l.count))
    ≡ least_of (without l.bound (numbers_from l.var (l.count - l.var)))
