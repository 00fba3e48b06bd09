pub mod WritingLemmas
pub mod FoldLemmas
pub mod CallerLemmas
