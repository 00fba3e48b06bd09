use Rattle.std.proofs.Common.{◌≡◌, ◌<◌, length}
use Rattle.std.specs.Vec.Iter.{into_iter_items, into_iter_len}
use Rattle.rif_refusals.specs.Limits.{most_batch_items}
use Rattle.rif_script.specs.Cutting.{batches_behind}
use Rattle.rif_script.proofs.CuttingLemmas.{AreChanges, batches_after}
use Rattle.rif_script.proofs.cutting.batches.Given as goal

abbrev pub invariant-loop-entry : goal.invariant-loop-entry
invariant-loop-entry l = record {
  counted : length (into_iter_items l.entry-iterator) ≡ into_iter_len l.entry-iterator;
  cut : batches_after l.batches.items l.open (into_iter_items l.entry-iterator) ≡ batches_behind 0 l.fn.entries.items;
  room : length l.open < most_batch_items;
  changes : AreChanges l.open;
}
