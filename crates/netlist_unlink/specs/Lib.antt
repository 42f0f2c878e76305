pub use Rattle.netlist_link.specs.cell_order as cell_order
pub use Rattle.netlist_link.specs as netlist_link
pub mod Flags
pub mod FreeNames
pub mod ImagesLaws
pub mod Kept
pub mod Parts
pub mod Prefixes
pub mod Renumbered
pub mod Rows
pub mod Trees
