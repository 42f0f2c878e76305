pub use Rattle.insertion_inputs.specs as insertion_inputs
pub mod Insertions
