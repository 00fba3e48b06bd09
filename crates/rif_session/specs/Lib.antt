pub mod Budgets
pub mod Fronts
pub mod Passes
pub mod Sessions
pub mod Steps
