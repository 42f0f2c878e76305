pub mod Bits
pub mod Outputs
pub mod PlayedScript
pub mod Runs
pub mod Shown
