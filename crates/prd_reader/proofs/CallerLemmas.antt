-- What crates above may cite of this crate's proofs.
pub use Rattle.prd_reader.proofs.OneDocumentLemmas.{one_document}
