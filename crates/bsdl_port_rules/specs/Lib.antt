pub mod Keys
pub mod NameTables
