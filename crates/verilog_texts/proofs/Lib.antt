pub mod Atoms
pub mod Cuts
pub mod Lines
pub mod Parts
pub mod Texts
pub mod Written
