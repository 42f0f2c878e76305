pub mod Bits
pub mod Ready
