pub mod Shown
pub mod Sims
