pub mod ComingSpelling
pub mod ComingRuleSpelling
pub mod PlacingNameLemmas
pub mod CallerLemmas
