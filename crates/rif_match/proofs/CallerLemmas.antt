-- What crates above may cite of this crate's proofs.
--     conflict_set_is_set    a conflict set is in order without repeats
pub use Rattle.rif_match.proofs.ConflictSetLemmas.{conflict_set_is_set}
