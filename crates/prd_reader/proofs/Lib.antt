pub mod PlaceLemmas
pub mod DocumentLemmas
pub mod OneDocumentLemmas
pub mod CallerLemmas
