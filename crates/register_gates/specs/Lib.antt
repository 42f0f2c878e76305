pub use Rattle.tap_gates.specs as tap_gates
pub mod Bits
pub mod BitsLaws
pub mod Chains
pub mod Choices
pub mod Constants
pub mod Laws
pub mod Registers
pub mod Steps
pub mod Tdo
