pub mod Batches
pub mod Clients
pub mod Machine
pub mod OpenBatches
