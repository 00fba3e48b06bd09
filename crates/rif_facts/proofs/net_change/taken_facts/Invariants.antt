use Rattle.std.proofs.Common.{◌≡◌, ◌++◌}
use Rattle.rif_facts.specs.NetChange.{taken_of}
use Rattle.rif_facts.proofs.net_change.taken_facts.Given as goal

abbrev pub invariant-loop-retraction : goal.invariant-loop-retraction
invariant-loop-retraction l =
    l.taken.items ++ taken_of l.own.entries l.facts.list l.retraction-iterator
    ≡ taken_of l.own.entries l.facts.list l.retracted.keys
