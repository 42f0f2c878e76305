pub mod GatheredLaws
pub mod Lines
pub mod Puts
