pub use Rattle.scan_stitch.specs as scan_stitch
pub mod Faults
pub mod Inputs
pub mod Reserves
