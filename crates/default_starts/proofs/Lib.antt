pub mod Added
pub mod Adds
pub mod Kept
pub mod Marks
pub mod Moved
pub mod Ordered
pub mod WordsNamed
