pub mod Keys
pub mod FactsWithRoom
pub mod Marks
pub mod Runs
pub mod Fates
pub mod Readiness
pub mod NetChange
