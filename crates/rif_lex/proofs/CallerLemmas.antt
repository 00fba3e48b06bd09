-- What crates above may cite of this crate's proofs.
pub use Rattle.rif_lex.proofs.ConstantLemmas.{constants_are_tokens}
pub use Rattle.rif_lex.proofs.FollowLemmas.{forms_are_tokens}
pub use Rattle.rif_lex.proofs.LexingLemmas.{inputs_are_texts}
pub use Rattle.rif_lex.proofs.PlaceLemmas.{line_feeds_first}
pub use Rattle.rif_lex.proofs.RefusalLemmas.{inputs_are_refused}
pub use Rattle.rif_lex.proofs.SpanLemmas.{slices_are_tokens}
pub use Rattle.rif_lex.proofs.SpellingLemmas.{spelled_is_lexed}
pub use Rattle.rif_lex.proofs.TestLemmas.{both, differs}
pub use Rattle.rif_lex.proofs.TextLemmas.{cut_utf8, slices_are_texts}
