pub mod Cuts
pub mod Fits
pub mod HiddenNames
pub mod Limits
pub mod Opening
