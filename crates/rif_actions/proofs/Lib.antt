pub mod LeastValueLemmas
pub mod SlotScopeLemmas
