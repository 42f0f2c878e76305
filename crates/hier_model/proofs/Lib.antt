pub mod Frames
mod Rows
pub mod Steps
pub mod Tables
