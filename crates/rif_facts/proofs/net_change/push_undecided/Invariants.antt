use Rattle.std.proofs.Common.{◌≡◌, ◌++◌, filter, is_none}
use Rattle.rif_facts.specs.Marks.{mark_at}
use Rattle.rif_facts.proofs.net_change.push_undecided.Given as goal

abbrev pub invariant-loop-fact : goal.invariant-loop-fact
invariant-loop-fact l =
    l.removed.items ++ filter (λ f. is_none (mark_at l.own.entries f)) l.fact-iterator.rest.items
    ≡ l.fn.removed.items ++ filter (λ f. is_none (mark_at l.own.entries f)) l.fn.named.items
