use Rattle.std.proofs.Common.{◌≡◌, ◌++◌, ◌∷◌, ℕ, [], true, false, length, ap, sym, subst, arith, ◌∙◌}
use Rattle.std.specs.Vec.Iter.{into_iter_items}
use Rattle.rif_script.specs.Cutting.{ends_behind}
use Rattle.rif_script.proofs.CuttingLemmas.{AreChanges, changes_joined, entry_closes, entry_joins, last_begun}
use Rattle.rif_script.proofs.CuttingLemmas.{lawful_begun, lawful_closed, not_both, room_joined}
use Rattle.rif_script.proofs.cutting.batches.Goals as goal

pub from_entries-requires : goal.from_entries-requires
from_entries-requires c =
    lawful_closed c.loop-entry.open c.replace-batch.result c.in-Some.entry c.loop-entry.invariant.room
    c.loop-entry.invariant.changes
    (c.replace-batch.ensures.value ∙ c.in_ok-push.ensures.ok)

pub loop-entry-preserved-in-Continue-branch-2 : goal.loop-entry-preserved-in-Continue-branch-2
loop-entry-preserved-in-Continue-branch-2 c =
    let ends : ends_behind (length c.loop-entry.open) c.in-Some.entry.item ≡ true =
    ap (λ (n : ℕ). ends_behind n c.in-Some.entry.item) (sym c.len.ensures) ∙ sym c.is_last-ends.ensures
    ∙ c.if-ends.true in
    let empty : c.replace-batch.new.dest ≡ [] = c.replace-batch.ensures.after ∙ c.new.ensures in
    let batch : c.from_entries.result ≡ c.loop-entry.open ++ c.in-Some.entry ∷ [] =
    c.from_entries.ensures ∙ c.replace-batch.ensures.value ∙ c.in_ok-push.ensures.ok in
    let long : length c.replace-batch.new.dest ≡ 0 = ap length empty in
    record {
      counted = let more = ap length c.in-Some.ensures.steps.0 in omega
          (arith, more, c.in-Some.ensures.steps.1, c.loop-entry.invariant.counted);
      cut = entry_closes _ c.loop-entry.batches.items c.push-then-ends.new.self.items c.loop-entry.open
          c.from_entries.result c.replace-batch.new.dest
          c.in-Some.entry (into_iter_items c.loop-entry.entry-iterator) (into_iter_items c.next.new.self)
          ends batch c.in_ok-push-2.ensures.items empty c.in-Some.ensures.steps.0 c.loop-entry.invariant.cut;
      room = omega (arith, long);
      changes = subst AreChanges (sym empty) tt;
    }

pub loop-entry-preserved : goal.loop-entry-preserved
loop-entry-preserved c =
    let ends : ends_behind (length c.loop-entry.open) c.in-Some.entry.item ≡ false =
    ap (λ (n : ℕ). ends_behind n c.in-Some.entry.item) (sym c.len.ensures) ∙ sym c.is_last-ends.ensures
    ∙ c.if-ends.false in
    record {
      counted = let more = ap length c.in-Some.ensures.steps.0 in omega
          (arith, more, c.in-Some.ensures.steps.1, c.loop-entry.invariant.counted);
      cut = entry_joins _ c.loop-entry.batches.items c.loop-entry.open c.push.new.self c.in-Some.entry
          (into_iter_items c.loop-entry.entry-iterator)
          (into_iter_items c.next.new.self) ends c.in_ok-push.ensures.ok c.in-Some.ensures.steps.0
          c.loop-entry.invariant.cut;
      room = room_joined c.loop-entry.open c.push.new.self c.in-Some.entry c.loop-entry.invariant.room ends
          c.in_ok-push.ensures.ok;
      changes = changes_joined c.loop-entry.open c.push.new.self c.in-Some.entry c.loop-entry.invariant.changes ends
          c.in_ok-push.ensures.ok;
    }

pub from_entries-requires-2 : goal.from_entries-requires-2
from_entries-requires-2 c = lawful_begun c.loop-entry.open c.loop-entry.invariant.room c.loop-entry.invariant.changes

pub returns : goal.returns
returns c =
    last_begun _ c.loop-entry.batches.items c.push-2.new.self.items c.loop-entry.open c.from_entries-2.result
    (into_iter_items c.loop-entry.entry-iterator)
    (λ empty. not_both c.is_empty.result (c.is_empty.ensures.1 empty) c.if-is_empty.false) c.from_entries-2.ensures
    c.in_ok-push-3.ensures.items
    (c.loop-entry.invariant.counted ∙ c.in-None.ensures.steps.0) c.loop-entry.invariant.cut
