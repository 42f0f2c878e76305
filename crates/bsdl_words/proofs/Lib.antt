pub mod Begun
pub mod Bytes
pub mod Complete
pub mod Feeds
pub mod Once
pub mod Outcome
pub mod Runs
pub mod Sound
