pub use Rattle.texts.proofs.list_laws as list_laws
pub mod ByLetter
pub mod Entries
pub mod KeyWordLaws
pub mod ReadWords
