pub mod SegEnds
pub mod SegSteps
