pub mod Logic
pub mod Ports
pub mod Rows
pub mod Whole
