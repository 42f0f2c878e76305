pub use Rattle.plan_fitting.specs.netlist_unlink as netlist_unlink
pub use Rattle.surrounded_core.specs.boundary_cells as boundary_cells
pub use Rattle.surrounded_core.specs.instruction_gates as instruction_gates
pub use Rattle.plan_fitting.specs as plan_fitting
pub mod CellsLaws
pub mod CellsLogic
pub mod Directions
pub mod Examples
pub mod FormedLaws
pub mod Gates
pub mod Inner
pub mod InsideLaws
pub mod InsidePlaces
pub mod Keeps
pub mod ModelLogic
pub mod ModelRows
pub mod Places
pub mod PlacesLaws
pub mod RanksLaws
pub mod RowsLaws
pub mod RunsLaws
pub mod Sides
pub mod Sites
pub mod Sizes
pub mod Stitched
