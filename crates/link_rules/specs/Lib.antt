pub use Rattle.link_model.specs as link_model
pub use Rattle.cell_order.specs as cell_order
pub mod ClocksFaults
pub mod Cones
pub mod DriversLaws
pub mod Links
pub mod Rules
pub mod Uses
