pub mod Named
pub mod Told
pub mod Views
pub mod Written
