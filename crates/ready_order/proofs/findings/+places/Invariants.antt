use Rattle.std.proofs.Common.{◌≡◌, map, take}
use Rattle.std.specs.Prelude.{sum}
use Rattle.ready_order.specs.Findings.{places_of}
use Rattle.ready_order.proofs.findings.+places.Given as goal

abbrev pub invariant-places_in_each-loop-formula : goal.invariant-places_in_each-loop-formula
invariant-places_in_each-loop-formula l = l.count ≡ sum (map places_of (take l.formula-index l.formulas))
