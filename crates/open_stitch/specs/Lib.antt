pub mod Connected
pub mod Laws
pub mod Open
pub mod Runs
pub mod RunsLaws
