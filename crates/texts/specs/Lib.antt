pub mod First
pub mod Places
pub mod Repeated
