use Rattle.std.proofs.Common.{take}
use Rattle.prd_relation.specs.RuleSystem.{system_of}
use Rattle.prd_relation.specs.Layout.{IsBestOf}
use Rattle.prd_relation.proofs.choosing.best_place.Given as goal

abbrev pub invariant-loop-place : goal.invariant-loop-place
invariant-loop-place l = IsBestOf (system_of l.doc) l.history (take l.place l.instances) l.best
