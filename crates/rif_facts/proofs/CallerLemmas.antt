-- What crates above may cite of this crate's proofs.
--     facts_kept    changes lead from a state of facts to one
pub use Rattle.rif_facts.proofs.FactsLemmas.{facts_kept}
