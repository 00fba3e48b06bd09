-- What crates above may cite of this crate's proofs.
pub use Rattle.prd_building.proofs.BuildingLaws.{one_list_of_prefixes, one_value}
