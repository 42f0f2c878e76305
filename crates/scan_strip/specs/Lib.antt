pub use Rattle.strip_model.specs as strip_model
pub mod Refusals
pub mod Stripped
