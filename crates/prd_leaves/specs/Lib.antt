pub mod Literals
pub mod Leaves
pub mod Documents
pub mod LeafWords
pub mod LeafSteps
