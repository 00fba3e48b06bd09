use Rattle.std.proofs.Common.{◌≡◌, take}
use Rattle.prd_relation.specs.Turns.{changes_in}
use Rattle.rif_engine.proofs.steps.changes_of.Given as goal

abbrev pub invariant-loop-entry : goal.invariant-loop-entry
invariant-loop-entry l = l.changes.items ≡ changes_in (take l.entry-index l.batch)
