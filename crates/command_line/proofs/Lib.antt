pub mod CommandLaws
pub mod Ends
pub mod FormLaws
pub mod Forms
pub mod Meets
pub mod NameLaws
pub mod Numbers
pub mod Runs
