pub use Rattle.status_stitch.specs.status_room as status_room
pub use Rattle.status_stitch.specs as status_stitch
pub mod Devices
pub mod Laws
pub mod Stitch
pub mod WrittenLaws
