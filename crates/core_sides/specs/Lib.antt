pub use Rattle.stitched_netlist.specs.netlist_unlink as netlist_unlink
pub use Rattle.stitched_netlist.specs.plan_fitting as plan_fitting
pub use Rattle.stitched_netlist.specs.boundary_cells as boundary_cells
pub use Rattle.stitched_netlist.specs.instruction_gates as instruction_gates
pub use Rattle.stitched_netlist.specs as stitched_netlist
pub mod Pins
pub mod Ready
pub mod Steps
