-- What crates above may cite of this crate's proofs.
pub use Rattle.prd_writing.proofs.FoldLemmas.{spelled_and, spelled_atom, spelled_call, spelled_const, spelled_equal}
pub use Rattle.prd_writing.proofs.FoldLemmas.{spelled_exists, spelled_frame, spelled_holds, spelled_member}
pub use Rattle.prd_writing.proofs.FoldLemmas.{spelled_not, spelled_or, spelled_var}
