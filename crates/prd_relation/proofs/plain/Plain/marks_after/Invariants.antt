use Rattle.std.proofs.Common.{◌≡◌, take, map}
use Rattle.prd_relation.specs.Layout.{next_mark}
use Rattle.prd_relation.proofs.plain.Plain.marks_after.Given as goal

abbrev pub invariant-loop-instance : goal.invariant-loop-instance
invariant-loop-instance l = l.marks.items ≡ map (next_mark l.pick l.self) (take l.instance-index l.instances)
