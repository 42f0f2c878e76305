pub mod Cells
pub mod Faults
pub mod Grammar
pub mod Laws
pub mod Lines
pub mod Reader
pub mod Rules
pub mod Words
