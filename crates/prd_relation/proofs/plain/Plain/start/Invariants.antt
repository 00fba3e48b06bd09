use Rattle.std.proofs.Common.{◌≡◌, [], None, take, map}
use Rattle.prd_relation.specs.Layout.{next_mark}
use Rattle.prd_relation.proofs.plain.Plain.start.Given as goal

abbrev pub invariant-loop : goal.invariant-loop
invariant-loop l = l.marks.items ≡ map (next_mark None []) (take l.index l.items)
