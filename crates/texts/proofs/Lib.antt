pub use Rattle.list_laws.proofs as list_laws
pub mod Tables
