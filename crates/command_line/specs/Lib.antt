pub mod Causes
pub mod Files
pub mod Forms
pub mod Meets
pub mod Names
pub mod Outcomes
pub mod Parsed
pub mod Tasks
