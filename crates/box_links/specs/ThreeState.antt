-- The first bit of a hidden output that a three-state gate drives, of a linked netlist; and the nets that such gates drive,
-- in a table. Own.
use Rattle.std.specs.Prelude.{◌≡◌, ℕ, ◌==◌, ◌&&◌, Bool, true, false, List, [], length, slice_get, slice_set, slice_index_or, Option, Some, None, unwrap_or, if◌then◌else◌}
use Rattle.std.specs.List.{list_any}
use Rattle.std.specs.Option.{option_map, option_map_or}
use Rattle.cell_library.specs.Gates.{is_three_state}
use Rattle.netlist_model.specs.declared.Dir.TheVariants.{Output}
use Rattle.netlist_model.specs.declared.NetId.{NetId}
use Rattle.netlist_model.specs.Lists.{CellView, NetView, NetlistView, PortView}
use Rattle.link_model.specs.declared.fault.BitName.{BitName}
use Rattle.link_model.specs.Lists.{first_in}
use Rattle.link_model.specs.Denoted.{NamedPort, name_bytes}
use Rattle.netlist_link.specs.Linked.{LinkedView, hidden_ports}
use Rattle.box_links.specs.BoxFaults.{first_output_bit}

-- Tables of nets.

abbrev pub flag_at : List Bool → ℕ → Bool
flag_at flags net = slice_index_or flags net false

-- the cell in a place is a three-state gate, and drives the net
abbrev pub is_gate_on : ℕ → Option CellView → Bool
is_gate_on net None = false
is_gate_on net (Some cell) = option_map_or (λ (n : NetId). n.0 == net) cell.output false && is_three_state cell.kind

-- a three-state gate drives the net
abbrev pub has_gate : List (Option CellView) → ℕ → Bool
has_gate cells net = list_any (is_gate_on net) cells

-- the table has a flag for each net that a three-state gate among these cells drives
pub record FlagsGates (N : NetlistView) (cells : List (Option CellView)) (flags : List Bool) : Type 0 where
  pub long : length flags ≡ length N.nets
  pub each : (net : ℕ) → flag_at flags net ≡ has_gate cells net

-- the table with a flag at the net of an output
abbrev pub with_output : Option NetId → List Bool → List Bool
with_output None flags = flags
with_output (Some net) flags = slice_set flags net.0 true

-- the table with the cell in a place
abbrev pub with_gate : Option CellView → List Bool → List Bool
with_gate None flags = flags
with_gate (Some cell) flags = if is_three_state cell.kind then with_output cell.output flags else flags

-- Ports.

-- a port with its name in bytes
abbrev pub named_port : List (List ℕ) → PortView → NamedPort
named_port table port = record { name = unwrap_or (name_bytes table port.name) []; dir = port.dir; range = port.range; nets = port.nets }

-- the first bit of a port that is an output, whose net the test finds
abbrev pub output_bit : List (List ℕ) → (ℕ → Bool) → PortView → Option BitName
output_bit table test port = first_output_bit test (named_port table port)

-- the first bit of a hidden output whose net the test finds
abbrev pub first_hidden : LinkedView → (ℕ → Bool) → Option BitName
first_hidden L test = first_in (output_bit L.names test) (hidden_ports L)

-- the name of a net, and its index there
abbrev pub net_bit : List (List ℕ) → NetView → BitName
net_bit table net = record { name = unwrap_or (name_bytes table net.name) []; index = net.index }

-- the net is that of a bit of a port
pub record IsPortNet (L : LinkedView) (net : ℕ) : Type 0 where
  pub number : ℕ
  pub bit : ℕ
  pub port : PortView
  pub there : slice_get L.arena.lists.ports number ≡ Some port
  pub at : slice_get port.nets bit ≡ Some (record { 0 = net })

-- the port with this number is an output
abbrev pub IsOutput : LinkedView → ℕ → Type 0
IsOutput L number = option_map (λ (port : PortView). port.dir) (slice_get L.arena.lists.ports number) ≡ Some Output
