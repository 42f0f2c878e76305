pub mod BitCounts
pub mod Bits
pub mod ControlSets
pub mod Disagreements
pub mod Sets
