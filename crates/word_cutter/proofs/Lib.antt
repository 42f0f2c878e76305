pub mod Ahead
pub mod Cases
pub mod Cut
pub mod KeptWords
pub mod Language
pub mod Rows
pub mod Runs
pub mod Written
