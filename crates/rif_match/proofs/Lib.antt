pub mod BoundRowLemmas
pub mod CallerLemmas
pub mod ConflictSetLemmas
pub mod ListingLemmas
pub mod MembershipLemmas
pub mod NarrowingLemmas
pub mod RisingLemmas
