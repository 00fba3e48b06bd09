pub mod Keeping
pub mod Listings
pub mod Replaying
pub mod SoFar
pub mod Standing
