pub use Rattle.core_sides.specs as core_sides
pub mod InsertedLaws
pub mod ModulesLaws
pub mod NamesLaws
pub mod Prepared
pub mod ReadyLaws
pub mod RunsLaws
pub mod Same
pub mod Taken
pub mod Written
