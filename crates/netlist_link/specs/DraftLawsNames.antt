-- Names of what is added to a well-named netlist.
use Rattle.std.specs.Prelude.{◌≡◌, ◌≢◌, ℕ, ◌<◌, List, length, slice_get, Some, None, IsSome}
use Rattle.cell_library.specs.declared.Kind.TheVariants.{Assign}
use Rattle.netlist_model.specs.declared.NetId.{NetId}
use Rattle.netlist_model.specs.declared.Dir.{Dir}
use Rattle.netlist_model.specs.declared.Name.TheVariants.{Original, Added}
use Rattle.netlist_model.specs.Lists.{PortView, NetView, CellView, NetlistView, cell_at, direction}
use Rattle.netlist_model.specs.Formed.{IsLaidOut, IsWellFormed}
use Rattle.netlist_arena.specs.Arena.{ArenaView}
use Rattle.netlist_arena.specs.Adds.{with_net, with_port}
use Rattle.link_arena.specs.NameTableNames.{with_name}
use Rattle.gate_parts.specs.Appended.{Appended}
use Rattle.netlist_link.specs.WellNamed.{IsWellNamed}
use Rattle.netlist_link.specs.Grown.{IsOneOf}
use Rattle.netlist_link.specs.Pins.{scalar}

-- own: no port, net or cell has the original name
pub record IsUnused (N : NetlistView) (number : ℕ) : Type 0 where
  pub ports : (p : ℕ) (port : PortView) → slice_get N.ports p ≡ Some port → port.name ≢ Original number
  pub nets : (net : ℕ) (view : NetView) → slice_get N.nets net ≡ Some view → view.name ≢ Original number
  pub cells : (i : ℕ) (cell : CellView) → cell_at N i ≡ Some cell → cell.name ≢ Some (Original number)

-- own: a name that the table doesn't have is unused once it is entered
abbrev pub EnteredIsUnused : Type 0
EnteredIsUnused = (table : List (List ℕ)) (N : NetlistView) (name : List ℕ) (number : ℕ) → IsWellNamed table N → ((k : ℕ) → slice_get table k ≢ Some name)
    → slice_get (with_name name table) number ≡ Some name → IsUnused N number

-- own: a net without an index, under an original name
abbrev pub named_net : ℕ → NetView
named_net number = record { name = Original number; index = None }

-- own: the net is a wire of one bit under the original name, which no other net has
pub record IsLoneWire (N : NetlistView) (number net : ℕ) : Type 0 where
  pub there : slice_get N.nets net ≡ Some (named_net number)
  pub outside : direction N.ports net ≡ None
  pub only : (other : ℕ) (view : NetView) → slice_get N.nets other ≡ Some view → view.name ≡ Original number → other ≡ net

-- own: a net under an unused name is added: the netlist stays well formed, and the net is a wire of its own
abbrev pub WireIsFormed : Type 0
WireIsFormed = (N : NetlistView) (number : ℕ) → IsLaidOut N → IsWellFormed N → IsUnused N number
    → IsWellFormed (with_net (named_net number) N) × IsLoneWire (with_net (named_net number) N) number (length N.nets)

-- own: and it stays well named
abbrev pub WireIsNamed : Type 0
WireIsNamed = (table : List (List ℕ)) (N : NetlistView) (number : ℕ) → IsLaidOut N → IsWellNamed table N → number < length table → IsUnused N number
    → IsWellNamed table (with_net (named_net number) N)

-- own: a scalar port of its name takes a wire of one bit: the netlist stays well named
abbrev pub PortIsNamed : Type 0
PortIsNamed = (table : List (List ℕ)) (N : NetlistView) (number : ℕ) (dir : Dir) (net : NetId) → IsWellNamed table N → number < length table → IsLoneWire N number net.0
    → IsWellNamed table (with_port (scalar (Original number) dir net) N)

-- own: an added cell has an added name and an output, and is no `assign`
pub record IsNamedCell (cell : CellView) : Type 0 where
  pub number : ℕ
  pub name : cell.name ≡ Some (Added number)
  pub kind : cell.kind ≢ Assign
  pub connected : IsSome cell.output

-- own: where such cells and nets are appended, a well-named netlist stays so, and a wire stays one
abbrev pub AppendedIsNamed : Type 0
AppendedIsNamed = (table : List (List ℕ)) (old new : ArenaView) (count : ℕ) (part : List CellView) → IsLaidOut old.lists → IsWellNamed table old.lists
    → Appended old new count part → ((cell : CellView) → IsOneOf part cell → IsNamedCell cell) → IsWellNamed table new.lists

abbrev pub LoneWireStays : Type 0
LoneWireStays = (old new : ArenaView) (count : ℕ) (part : List CellView) (number net : ℕ) → Appended old new count part → IsLoneWire old.lists number net
    → IsLoneWire new.lists number net
