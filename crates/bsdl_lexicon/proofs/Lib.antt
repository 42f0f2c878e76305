pub mod ReadWords
pub mod ReservedWords
pub mod SameNames
