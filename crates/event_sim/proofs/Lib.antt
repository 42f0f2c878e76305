pub mod EmptiedLog
pub mod NetPlaces
pub mod ShownBits
pub mod Simulators
