pub mod Agreement
pub mod ChecksLaws
pub mod Firsts
pub mod Merges
pub mod Rules
pub mod Verdicts
