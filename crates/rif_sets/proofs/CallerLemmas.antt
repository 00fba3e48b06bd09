-- What crates above may cite of this crate's proofs. Those with an order take its laws first: that it is total, and
-- that it is exact.
--     equal_is, equal_itself      what compares alike is one
--     same_set                    sets with the same elements are equal
--     has_ ..                     which elements a list has
--     set_ ..                     what keeps a list a set
--     insert_present ..           sets that stay as they are
--     first_ ..                   the first of a set is the least
pub use Rattle.rif_sets.proofs.SetsMembers.{equal_is, equal_itself, same_set}
pub use Rattle.rif_sets.proofs.SetsMembers.{has_contains, has_append, has_filter, has_insert, has_with_all}
pub use Rattle.rif_sets.proofs.SetsMembers.{has_ordered}
pub use Rattle.rif_sets.proofs.SetsMembers.{set_empty, set_insert, set_with_all, set_ordered, set_filter}
pub use Rattle.rif_sets.proofs.SetsChanges.{has_beyond, has_patched, set_beyond, set_patched, gives_of_net}
pub use Rattle.rif_sets.proofs.SetsSteps.{is_ordered, ordered_same, ordered_alike, insert_present, remove_absent}
pub use Rattle.rif_sets.proofs.SetsSteps.{first_below_rest, first_is_least, set_rest}
