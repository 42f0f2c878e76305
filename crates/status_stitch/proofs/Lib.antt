pub use Rattle.status_build.proofs as status_build
pub use Rattle.open_stitch.proofs as open_stitch
mod BuiltCells
mod Bypass
pub mod Fitted
pub mod Free
mod Known
pub mod Numbers
mod Opened
pub mod RealisedLaws
pub mod RealisedOpened
mod Same
mod Status
