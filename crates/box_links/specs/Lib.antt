pub use Rattle.box_model.specs as box_model
pub mod BoxFaults
pub mod BoxLinks
pub mod Laws
pub mod Steps
pub mod ThreeState
