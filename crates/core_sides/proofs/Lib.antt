pub use Rattle.stitched_netlist.proofs.plan_fitting as plan_fitting
pub use Rattle.stitched_netlist.proofs as stitched_netlist
pub mod Behind
mod Drivers
mod MovesCells
mod MovesSides
mod Next
mod Turns
