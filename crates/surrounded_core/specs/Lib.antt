pub use Rattle.register_gates.specs as register_gates
pub use Rattle.instruction_gates.specs as instruction_gates
pub use Rattle.boundary_cells.specs as boundary_cells
pub mod Above
pub mod ChipRows
pub mod Home
pub mod Instructions
pub mod Laws
pub mod Lengths
pub mod LevelsRows
pub mod Open
pub mod Places
pub mod Registers
pub mod Rows
pub mod RowsLaws
pub mod Selections
pub mod Sites
pub mod Surrounds
