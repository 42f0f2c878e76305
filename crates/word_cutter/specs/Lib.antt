pub mod Ahead
pub mod Cut
pub mod Forms
pub mod Language
pub mod LinesLaws
pub mod LinesWords
pub mod Rows
pub mod Run
