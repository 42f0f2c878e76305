pub use Rattle.link_model.specs as link_model
pub mod Ports
pub mod Opened
pub mod Counts
pub mod Faults
pub mod Closed
pub mod Sound
pub mod Laws
pub mod Examples
