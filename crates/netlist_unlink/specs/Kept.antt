-- What an item keeps of its cell, whatever nets its bits name.
-- own: a part of 'the tree denotes the netlist'
use Rattle.std.specs.Prelude.{◌≡◌, ℕ, List, length, Some}
use Rattle.std.specs.Option.{option_map}
use Rattle.netlist_model.specs.Lists.{CellView, NetlistView, cell_at}
use Rattle.link_model.specs.Nets.{Declared}
use Rattle.link_model.specs.Cells.{NamedCell, cell_of}
use Rattle.netlist_unlink.specs.Trees.{Naming, cell_text, item_of}

-- own: the cell of an item has this cell's kind, its spelled name, and as many operands
pub record IsKept (naming : Naming) (number : ℕ) (cell : CellView) (named : NamedCell) : Type 0 where
  pub kind : named.kind ≡ cell.kind
  pub name : named.name ≡ option_map (cell_text naming number) cell.name
  pub count : length named.feeds ≡ length cell.feeds

-- own: so it is for the item of each live cell
abbrev pub AreKept : NetlistView → Naming → Type 0
AreKept N naming = (names : List (List ℕ × Declared)) (number : ℕ) (cell : CellView) → cell_at N number ≡ Some cell → IsKept naming number cell (cell_of naming.library names (item_of naming number cell))
