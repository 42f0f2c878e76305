pub use Rattle.scan_stitch.specs as scan_stitch
pub mod Prepared
pub mod Ready
pub mod Needed
pub mod ReadyLaws
