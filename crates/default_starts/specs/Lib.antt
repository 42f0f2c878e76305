pub mod Found
pub mod Laws
pub mod OwnRules
pub mod Starts
pub mod Words
