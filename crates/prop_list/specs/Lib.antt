pub mod Lists
pub mod Tallies
pub mod SegEnds
pub mod SegSeats
pub mod SegViews
