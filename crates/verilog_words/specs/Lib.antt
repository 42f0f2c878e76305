pub mod Fed
pub mod Kinds
pub mod Laws
pub mod Machine
pub mod Steps
