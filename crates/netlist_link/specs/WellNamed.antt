-- When a netlist is well named by a table of names: it can be written as a module again.
-- IEEE Std 1364-2001: data types (vectors), hierarchical names; names that were added later are own.
use Rattle.std.specs.Prelude.{◌≡◌, ℕ, ◌+◌, ◌-◌, ◌<◌, ◌≤◌, ◌^◌, nat_le, List, length, slice_get, Option, Some, None, IsSome, IfSome, if◌then◌else◌, ⊤}
use Rattle.verilog_tree.specs.IsTree.{IsTreeName}
use Rattle.cell_library.specs.declared.Kind.TheVariants.{Assign}
use Rattle.cell_library.specs.Library.{cell_name}
use Rattle.cell_library.specs.Sound.{IsLibrary}
use Rattle.netlist_model.specs.declared.NetId.{NetId}
use Rattle.netlist_model.specs.declared.Name.{Name}
use Rattle.netlist_model.specs.declared.Name.TheVariants.{Original, Added}
use Rattle.netlist_model.specs.declared.Range.{Range}
use Rattle.netlist_model.specs.Lists.{PortView, NetView, CellView, NetlistView, cell_at, direction}
use Rattle.netlist_model.specs.Formed.{width_of}
use Rattle.link_arena.specs.NameTableNames.{IsOnce}

-- own: an original name is one of the table
abbrev pub IsKnown : List (List ℕ) → Name → Type 0
IsKnown table (Original number) = number < length table
IsKnown table (Added number) = ⊤

-- own: an original name of the table
abbrev pub IsNameOf : List (List ℕ) → Name → Type 0
IsNameOf table (Original number) = number < length table
IsNameOf table (Added number) = ⊥

-- vectors: the index of a bit, counted from the left of the range; a scalar has none
abbrev pub index_from : Option Range → ℕ → Option ℕ
index_from None place = None
index_from (Some range) place = Some (if nat_le range.left range.right then range.left + place else range.left - place)

-- own: the numbers of a range have at most nine digits
pub record IsShortRange (range : Range) : Type 0 where
  pub left : range.left < 10 ^ 9
  pub right : range.right < 10 ^ 9

-- own: a net that stands in no port bit, under this name
pub record IsWireNet (N : NetlistView) (net : ℕ) (name : Name) : Type 0 where
  pub view : NetView
  pub there : slice_get N.nets net ≡ Some view
  pub outside : direction N.ports net ≡ None
  pub named : view.name ≡ name

-- own: the nets of a wire stand in a row, with its name and the indexes of its range from the left; no other
-- net has the name
pub record IsWire (N : NetlistView) (number first : ℕ) (range : Option Range) : Type 0 where
  pub bits : (place : ℕ) → place < width_of range → slice_get N.nets (first + place) ≡ Some (record { name = Original number; index = index_from range place })
  pub outside : (place : ℕ) → place < width_of range → direction N.ports (first + place) ≡ None
  pub only : (net : ℕ) → IsWireNet N net (Original number) → (first ≤ net) × (net < first + width_of range)
  pub short : IfSome range IsShortRange

-- own: some wire has the name
pub record IsWireName (N : NetlistView) (number : ℕ) : Type 0 where
  pub first : ℕ
  pub range : Option Range
  pub wire : IsWire N number first range

-- own: the netlist is one that a module can be written for
pub record IsWellNamed (table : List (List ℕ)) (N : NetlistView) : Type 0 where
  -- its listed cells make a library
  pub library : IsLibrary N.library
  -- the table has no name twice
  pub once : IsOnce table
  -- each name of the table can be written
  pub spelled : (number : ℕ) (name : List ℕ) → slice_get table number ≡ Some name → IsTreeName name
  -- each original name is one of the table
  pub net_names : (net : ℕ) (view : NetView) → slice_get N.nets net ≡ Some view → IsKnown table view.name
  pub cell_names : (i : ℕ) (cell : CellView) (name : Name) → cell_at N i ≡ Some cell → cell.name ≡ Some name → IsKnown table name
  -- a port has an original name, which its nets have too, with the indexes of its range from the left
  pub port_names : (p : ℕ) (port : PortView) → slice_get N.ports p ≡ Some port → (number : ℕ) × (port.name ≡ Original number) × (number < length table)
  pub port_ranges : (p : ℕ) (port : PortView) → slice_get N.ports p ≡ Some port → IfSome port.range IsShortRange
  pub port_bits : (p bit : ℕ) (port : PortView) (net : NetId) → slice_get N.ports p ≡ Some port → slice_get port.nets bit ≡ Some net
      → slice_get N.nets net.0 ≡ Some (record { name = port.name; index = index_from port.range bit })
  -- the nets under another original name are those of one wire
  pub wires : (net number : ℕ) → IsWireNet N net (Original number) → IsWireName N number
  -- an added net has no index and stands in no port bit
  pub added : (net number : ℕ) (view : NetView) → slice_get N.nets net ≡ Some view → view.name ≡ Added number
      → (view.index ≡ None) × (direction N.ports net ≡ None)
  -- no two ports, wires and cells have the same original name
  pub ports_apart : (p q : ℕ) (port other : PortView) → slice_get N.ports p ≡ Some port → slice_get N.ports q ≡ Some other → port.name ≡ other.name → p ≡ q
  pub cells_apart : (i j number : ℕ) (cell other : CellView) → cell_at N i ≡ Some cell → cell_at N j ≡ Some other
      → cell.name ≡ Some (Original number) → other.name ≡ Some (Original number) → i ≡ j
  pub port_or_cell : (p i : ℕ) (port : PortView) (cell : CellView) → slice_get N.ports p ≡ Some port → cell_at N i ≡ Some cell → cell.name ≡ Some port.name → ⊥
  pub port_or_wire : (p net : ℕ) (port : PortView) → slice_get N.ports p ≡ Some port → IsWireNet N net port.name → ⊥
  pub cell_or_wire : (i net number : ℕ) (cell : CellView) → cell_at N i ≡ Some cell → cell.name ≡ Some (Original number) → IsWireNet N net (Original number) → ⊥
  -- a library cell or a listed one has a name, an `assign` has none
  pub library_named : (i : ℕ) (cell : CellView) → cell_at N i ≡ Some cell → IsSome (cell_name N.library cell.kind) → IsSome cell.name
  pub assign_unnamed : (i : ℕ) (cell : CellView) → cell_at N i ≡ Some cell → cell.kind ≡ Assign → cell.name ≡ None
  -- only a library cell or a listed one may be without an output
  pub connected : (i : ℕ) (cell : CellView) → cell_at N i ≡ Some cell → cell_name N.library cell.kind ≡ None → IsSome cell.output
