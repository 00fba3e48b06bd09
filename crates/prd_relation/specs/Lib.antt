pub mod Choice
pub mod FactsOfTurns
pub mod History
pub mod Laws
pub mod Layout
pub mod RuleSystem
pub mod Runs
pub mod Turns
