pub mod MadeAgain
pub mod Refused
mod Trees
pub mod Whole
