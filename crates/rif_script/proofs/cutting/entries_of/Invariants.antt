use Rattle.std.proofs.Common.{◌≡◌, ◌++◌, ℕ, [], drop, take}
use Rattle.rif_script.specs.Cutting.{entries_after, sent_count}
use Rattle.rif_script.specs.Ranks.{sent_so_far}
use Rattle.rif_script.proofs.cutting.entries_of.Given as goal

abbrev pub invariant-loop-client : goal.invariant-loop-client
invariant-loop-client l = record {
  made : l.entries.items ++ entries_after (take l.client-index l.client-items) (drop l.client-index l.client-items)
      ≡ entries_after [] l.client-items;
  counted : (c : ℕ) → sent_so_far l.sent c ≡ sent_count c (take l.client-index l.client-items);
}
