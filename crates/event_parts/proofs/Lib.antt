pub mod QueuesBits
pub mod Tables
pub mod Walks
