pub mod ByLetter
pub mod Bytes
pub mod NameKeys
pub mod Names
pub mod Pieces
pub mod Reserved
pub mod Words
