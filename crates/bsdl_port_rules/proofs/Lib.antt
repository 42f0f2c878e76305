pub mod Entries
pub mod KeyLists
pub mod Repeats
pub mod Tables
