use Rattle.std.proofs.Common.{◌≡◌, drop}
use Rattle.prd_relation.specs.Turns.{state_with}
use Rattle.rif_engine.proofs.steps.state_after.Given as goal

abbrev pub invariant-loop-entry : goal.invariant-loop-entry
invariant-loop-entry l = state_with l.now (drop l.entry-index l.batch) ≡ state_with l.fn.state l.batch
