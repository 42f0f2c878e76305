pub use Rattle.status_build.specs as status_build
pub use Rattle.status_room.specs.scan_stitch as scan_stitch
pub use Rattle.status_room.specs as status_room
pub use Rattle.open_stitch.specs as open_stitch
pub mod Built
pub mod BuiltLaws
pub mod RealisedLaws
pub mod Stands
pub mod Stitch
pub mod Stitched
