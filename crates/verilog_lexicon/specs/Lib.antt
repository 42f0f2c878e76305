pub mod ByLetter
pub mod Bytes
pub mod Entries
pub mod Keywords
pub mod Pieces
pub mod Words
