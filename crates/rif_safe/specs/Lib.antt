pub mod Laws
pub mod Safeness
