mod Alone
mod Beside
mod Bits
mod Cells
pub mod Events
mod Expectations
mod Found
mod Legal
mod Levels
mod Lines
mod Named
pub mod Pins
pub mod Plain
mod Plans
mod Plays
pub mod ScriptsPlaces
mod ScriptsSets
mod ScriptsWhole
pub mod ScriptsWords
mod Sets
mod Sides
pub mod Starts
mod There
