pub mod Laws
pub mod Misplaced
pub mod Numbering
pub mod Occurrences
