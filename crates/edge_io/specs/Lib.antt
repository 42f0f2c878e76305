pub mod Calls
pub mod Entries
pub mod MemShelf
pub mod MemSink
pub mod NeverFails
pub mod Outputs
pub mod Reserved
pub mod Shelf
