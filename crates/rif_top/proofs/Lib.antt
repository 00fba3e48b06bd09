pub mod AnswerLemmas
pub mod ClientLemmas
pub mod CompletenessLemmas
pub mod RunLemmas
pub mod TextLemmas
pub mod WordLemmas
pub mod WritingLemmas
