pub mod Counts
pub mod Ordered
pub mod OwnNames
pub mod Pairs
pub mod Tables
