pub mod Faults
pub mod Strippings
pub mod Tasks
