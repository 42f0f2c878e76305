pub mod Bits
pub mod Keys
pub mod Marks
pub mod Names
pub mod Seen
pub mod Tables
pub mod Taken
