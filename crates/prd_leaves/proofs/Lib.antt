pub mod PrefixMapLemmas
pub mod IntegerLemmas
pub mod EscapeLemmas
pub mod TokenLemmas
pub mod LeafLemmas
pub mod PrefixLemmas
pub mod OutcomeLemmas
pub mod CallerLemmas
