-- What crates above may cite of this crate's proofs.
pub use Rattle.prd_limits.proofs.CountingDocumentLemmas.{counts, length_tallies}
pub use Rattle.prd_limits.proofs.CountingFoldLemmas.{Tally, tallies}
pub use Rattle.prd_limits.proofs.CountingGroupLemmas.{document_leads, rule_tally}
pub use Rattle.prd_limits.proofs.CountingLimitLemmas.{Clear, KeepTallies, clear_from, open_rules, rules_counted}
pub use Rattle.prd_limits.proofs.CountingLimitLemmas.{tail_of_if, test_of_if}
pub use Rattle.prd_limits.proofs.CountingPriorityLemmas.{AreInRange, InRange, document_in_range}
pub use Rattle.prd_limits.proofs.FittingLemmas.{AreFitting, all_fit, let_pass}
pub use Rattle.prd_limits.proofs.PlacingRuleLemmas.{places}
