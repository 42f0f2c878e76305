pub mod Cells
pub mod Laws
pub mod MachineRows
pub mod ThreeState
