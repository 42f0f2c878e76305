pub mod Entries
pub mod Faults
pub mod Flat
pub mod Found
pub mod Names
pub mod Visits
pub mod WalkNames
pub mod Walks
