pub mod Bytes
pub mod Complete
pub mod Feeds
pub mod Outcome
pub mod Runs
pub mod Sound
pub mod Taken
pub mod Values
