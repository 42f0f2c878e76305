pub use Rattle.core_sides.proofs as core_sides
mod Added
mod Driven
mod Extended
pub mod ModulesCells
pub mod ModulesLimits
pub mod ModulesLists
pub mod ModulesWhole
mod NamesFew
pub mod NamesLimits
mod NamesPlaces
mod Numbers
pub mod Ports
mod Prefix
mod ReadyFew
mod ReadyLaws
pub mod Rows
mod Same
pub mod Sizes
mod Table
mod TapNames
mod Views
mod Written
