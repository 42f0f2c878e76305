pub mod Joined
pub mod Knowledge
pub mod Known
pub mod Values
