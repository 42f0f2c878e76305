pub use Rattle.scan_stitch.proofs as scan_stitch
pub mod Limits
pub mod Prepared
mod Registers
mod Untaken
mod Wires
