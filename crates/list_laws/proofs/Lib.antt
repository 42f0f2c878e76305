pub mod Bytes
pub mod Digits
pub mod Lists
pub mod Marks
pub mod Numbers
pub mod Options
pub mod Tests
