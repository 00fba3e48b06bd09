pub mod Prefixes
pub mod Trees
pub mod Values
pub mod Progress
pub mod Refusals
