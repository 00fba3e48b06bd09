pub mod EndingLemmas
pub mod OpenLemmas
