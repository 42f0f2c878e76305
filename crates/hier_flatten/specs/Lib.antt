pub mod Flattened
pub mod Joins
pub mod NameChecks
pub mod Nets
pub mod Operands
pub mod Visited
