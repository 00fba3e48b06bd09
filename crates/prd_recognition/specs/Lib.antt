pub mod Following
pub mod Recognizing
pub mod Reached
