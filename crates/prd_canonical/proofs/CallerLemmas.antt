-- What crates above may cite of this crate's proofs.
pub use Rattle.prd_canonical.proofs.ReadBackLemmas.{canonical_is_read_back}
pub use Rattle.prd_canonical.proofs.SeparateLaws.{canonical_is_separate}
