pub mod Signs
pub mod Building
