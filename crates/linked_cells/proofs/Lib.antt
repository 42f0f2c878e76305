pub use Rattle.netlist_model.proofs as netlist_model
pub use Rattle.netlist_model.proofs.list_laws as list_laws
pub mod Chains
pub mod Feeds
pub mod Keys
pub mod Moves
pub mod Operands
pub mod Threads
pub mod Walks
pub mod Writes
