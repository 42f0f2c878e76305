pub mod BaseFile
pub mod EntriesReader
pub mod Laws
pub mod Outcomes
pub mod OwnPlaces
pub mod Reader
pub mod WordsAhead
