pub mod BoundLemmas
pub mod CallerLemmas
pub mod ExactLemmas
pub mod GatheringLemmas
pub mod OrderLemmas
