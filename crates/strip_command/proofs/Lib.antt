pub mod Complete
pub mod Made
