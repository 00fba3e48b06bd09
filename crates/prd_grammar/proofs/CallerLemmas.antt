-- What crates above may cite of this crate's proofs.
pub use Rattle.prd_grammar.proofs.ComingRuleSpelling.{put_action, put_actions, put_block, put_document}
pub use Rattle.prd_grammar.proofs.ComingRuleSpelling.{put_document_alone, put_group, put_members, put_prefixes}
pub use Rattle.prd_grammar.proofs.ComingRuleSpelling.{put_priority, put_rule, put_strategy, put_such, put_target}
pub use Rattle.prd_grammar.proofs.ComingSpelling.{put_const, put_formula, put_formulas, put_name, put_pairs, put_tail}
pub use Rattle.prd_grammar.proofs.ComingSpelling.{put_term, put_terms, put_vars}
pub use Rattle.prd_grammar.proofs.PlacingNameLemmas.{Known, KnownLeaf, all_known, known_back, known_front}
pub use Rattle.prd_grammar.proofs.PlacingNameLemmas.{place_below}
