pub mod CutPorts
pub mod Links
pub mod Names
pub mod Nets
