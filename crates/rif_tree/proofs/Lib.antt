pub mod CallerLemmas
pub mod FreeLemmas
pub mod NamesLemmas
pub mod ReadyLemmas
pub mod ScopedLemmas
