pub mod ConflictSet
pub mod Laws
pub mod Narrowing
