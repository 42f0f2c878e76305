pub mod Breaks
pub mod ClocksCells
pub mod Cones
pub mod ControlLinks
pub mod DerivedNets
pub mod DriverLaws
pub mod FirstDerived
pub mod LinkNets
