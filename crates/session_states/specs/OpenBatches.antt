-- What contracts see of a batch to which entries are added.
--     batch.entries           its entries, in order
--     batch.has_room          whether one more can be added without memory
--     takes_more entries      whether one more entry may stand behind these: there are fewer than 1,024, and the last
--                             one ends no batch
-- Source: the project's own (docs/PROFILE.md, "Batches").
use Rattle.std.specs.Prelude.{Bool, not, ◌&&◌, List, length, nat_lt}
use Rattle.rif_refusals.specs.Limits.{most_batch_items}
use Rattle.session_states.specs.declared.item.Entry.{Entry}
use Rattle.session_states.specs.Batches.{ends_batch, ends_in}

pub record BatchWithRoom : Type 0 where
  pub entries : List Entry
  pub has_room : Bool

abbrev pub takes_more : List Entry → Bool
takes_more entries = nat_lt (length entries) most_batch_items && not (ends_in ends_batch entries)
