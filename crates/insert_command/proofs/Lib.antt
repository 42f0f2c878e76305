pub mod Complete
mod Insertable
mod Made
mod StatusComplete
