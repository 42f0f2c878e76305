pub mod CellRows
pub mod Few
pub mod Next
pub mod Ordered
pub mod TableFinds
pub mod Tables
pub mod Words
