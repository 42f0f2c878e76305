pub mod AddedTables
pub mod Cells
pub mod MachineRows
pub mod Stages
pub mod ThreeStates
