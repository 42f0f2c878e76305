pub use Rattle.written_netlists.proofs as written_netlists
pub mod Fit
pub mod FittedBits
pub mod Joined
pub mod Known
pub mod Runs
pub mod StitchSteps
pub mod Surrounded
