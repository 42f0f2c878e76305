pub use Rattle.insertions.specs.insertion_inputs as insertion_inputs
pub use Rattle.insertions.specs as insertions
pub use Rattle.status_inputs.specs.status_register as status_register
pub use Rattle.status_inputs.specs as status_inputs
pub mod Insertions
pub mod Reports
