use Rattle.std.proofs.Common.{◌≡◌, ◌++◌}
use Rattle.rif_facts.specs.Marks.{kept_by}
use Rattle.rif_facts.specs.NetChange.{is_new, is_gone}
use Rattle.rif_facts.proofs.net_change.changed_lists.Given as goal

abbrev pub invariant-loop-fact : goal.invariant-loop-fact
invariant-loop-fact l =
    (l.lists.added.items ++ kept_by (is_new l.facts.list) l.fact-iterator
    ≡ kept_by (is_new l.facts.list) l.fn.own.entries)
    × (l.lists.removed.items ++ kept_by (is_gone l.facts.list) l.fact-iterator
    ≡ l.fn.taken.items ++ kept_by (is_gone l.facts.list) l.fn.own.entries)
