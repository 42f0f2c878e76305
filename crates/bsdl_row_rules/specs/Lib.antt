pub mod Bits
pub mod Controls
