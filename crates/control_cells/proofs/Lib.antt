mod ControlKeys
mod Controls
pub mod Places
