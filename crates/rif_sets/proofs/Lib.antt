pub mod CallerLemmas
pub mod SetsChanges
pub mod SetsMembers
pub mod SetsSearch
pub mod SetsSorted
pub mod SetsSteps
