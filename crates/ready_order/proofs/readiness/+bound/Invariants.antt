use Rattle.std.proofs.Common.{◌≡◌, true, take}
use Rattle.std.specs.List.{list_all}
use Rattle.ready_order.proofs.BoundLemmas.{is_term_bound}
use Rattle.ready_order.proofs.readiness.+bound.Given as goal

abbrev pub invariant-are_bound-loop-term : goal.invariant-are_bound-loop-term
invariant-are_bound-loop-term l = list_all (is_term_bound l.bound) (take l.term-index l.terms) ≡ true
