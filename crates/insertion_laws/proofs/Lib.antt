mod Chips
pub mod Marks
mod Ports
mod Stripped
mod Together
