pub use Rattle.written_netlists.specs as written_netlists
pub mod Laws
pub mod Ready
pub mod Stitch
pub mod Stitched
