pub mod Circuits
pub mod Events
pub mod Logs
pub mod Tables
pub mod Values
