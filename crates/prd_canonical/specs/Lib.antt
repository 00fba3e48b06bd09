pub mod Writable
pub mod CanonicalTrees
pub mod ReadBack
pub mod Separate
pub mod WritableLeaves
