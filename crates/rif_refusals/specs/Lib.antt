pub mod LimitLaws
pub mod Limits
pub mod Refusals
