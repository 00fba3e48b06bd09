-- What crates above may cite of this crate's proofs.
pub use Rattle.prd_leaves.proofs.EscapeLemmas.{AreHigh, both, character_utf8, high_apart, high_character, high_rest}
pub use Rattle.prd_leaves.proofs.EscapeLemmas.{low_utf8, unescaped_utf8}
pub use Rattle.prd_leaves.proofs.LeafLemmas.{token_at, tokens_of_input}
pub use Rattle.prd_leaves.proofs.OutcomeLemmas.{count_of_leaves, front_of_document, not_both, one_refusal}
pub use Rattle.prd_leaves.proofs.PrefixLemmas.{declared}
pub use Rattle.prd_leaves.proofs.TokenLemmas.{colon_utf8, iri_utf8, local_utf8, str_utf8, var_utf8}
