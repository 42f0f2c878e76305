pub use Rattle.status_register.specs.status_room as status_room
pub use Rattle.status_register.specs.status_stitch as status_stitch
pub use Rattle.status_register.specs as status_register
pub mod Faults
pub mod Inputs
pub mod Reserves
