pub mod Bits
pub mod CutPorts
pub mod Linked
pub mod Places
pub mod Steps
pub mod Tallies
pub mod Wires
