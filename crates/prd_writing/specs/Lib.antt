pub mod Canonical
pub mod Writing
