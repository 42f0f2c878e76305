pub mod Lists
pub mod Options
pub mod Marks
pub mod Digits
