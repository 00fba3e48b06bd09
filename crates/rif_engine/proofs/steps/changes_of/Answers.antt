use Rattle.std.proofs.Common.{[], refl}
use Rattle.session_states.specs.declared.item.Entry.{Entry}
use Rattle.prd_relation.specs.Turns.{change_of}
use Rattle.rif_values.proofs.CallerLemmas.{found_step}
use Rattle.rif_engine.proofs.steps.changes_of.Goals as goal

pub loop-entry-preserved : goal.loop-entry-preserved
loop-entry-preserved c =
    found_step (λ (entry : Entry). change_of entry.item) c.args.batch.now c.loop-entry.entry-index c.entry-item.result
    (change_of c.entry-item.result.item) [] c.loop-entry.changes.items c.push_change.new.changes.items
    c.loop-entry-test.true
    c.entry-item.is refl c.loop-entry.invariant c.in_ok-push_change.ensures
