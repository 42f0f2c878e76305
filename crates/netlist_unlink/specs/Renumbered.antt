-- The netlist that a written tree denotes: the argument's, with its nets and cells numbered anew.
-- IEEE Std 1364-2001: modules and ports, data types, gate-level modelling; the order of nets and the names of
-- added ones are own.
use Rattle.std.specs.Prelude.{◌≡◌, ℕ, suc, ◌+◌, ◌<◌, ◌==◌, Bool, true, false, List, [], ◌∷◌, ◌++◌, length, map, slice_get, Option, Some, None, if◌then◌else◌}
use Rattle.std.specs.List.{flat_map}
use Rattle.std.specs.Option.{option_map}
use Rattle.verilog_tree.specs.declared.tree.Module.{Module}
use Rattle.cell_library.specs.declared.listed.ListedCell.{ListedCell}
use Rattle.cell_library.specs.Gates.{is_flop}
use Rattle.netlist_model.specs.declared.Dir.{Dir}
use Rattle.netlist_model.specs.declared.Feed.{Feed}
use Rattle.netlist_model.specs.declared.Feed.TheVariants.{Net, Const}
use Rattle.netlist_model.specs.declared.Name.{Name}
use Rattle.netlist_model.specs.declared.Name.TheVariants.{Original, Added}
use Rattle.netlist_model.specs.declared.NetId.{NetId}
use Rattle.netlist_model.specs.declared.What.TheVariants as what
use Rattle.netlist_model.specs.Lists.{PortView, NetView, CellView, NetlistView, cell_count, direction}
use Rattle.link_model.specs.declared.fault.LinkFault.{LinkFault}
use Rattle.link_model.specs.Lists.{or_else}
use Rattle.link_model.specs.Nets.{NamedNet}
use Rattle.link_model.specs.Cells.{NamedCell}
use Rattle.link_model.specs.Denoted.{NamedPort, NamedNetlist, denoted, net_id}
use Rattle.link_model.specs.Faults.{text_fault, too_many}
use Rattle.link_model.specs.Late.{IsLinkable}
use Rattle.netlist_link.specs.Linked.{LinkedView}
use Rattle.netlist_unlink.specs.Trees.{Naming, bit_of, cell_text, naming_of, port_text}

-- The order in which the nets are written.

-- own: the nets of ports, in order, each port's from the left
abbrev pub port_numbers : List PortView → List ℕ
port_numbers ports = flat_map (λ (p : PortView). map (λ (n : NetId). n.0) p.nets) ports

-- own: a net with an original name that stands in no port bit
abbrev pub is_wire : Option Dir → Name → Bool
is_wire None (Original number) = true
is_wire None (Added number) = false
is_wire (Some dir) name = false

-- own: the name was added
abbrev pub is_added : Name → Bool
is_added (Original number) = false
is_added (Added number) = true

-- own: the number alone, or none
abbrev pub one_if : Bool → ℕ → List ℕ
one_if true number = number ∷ []
one_if false number = []

-- own: the numbers of the nets that pass a test, of which the first net has this number
abbrev pub numbers_from : (ℕ → NetView → Bool) → ℕ → List NetView → List ℕ
numbers_from test number [] = []
numbers_from test number (view ∷ nets) = one_if (test number view) number ++ numbers_from test (number + 1) nets

-- own: the net with this number is an original wire
abbrev pub wire_test : List PortView → ℕ → NetView → Bool
wire_test ports number view = is_wire (direction ports number) view.name

-- own: the net was added
abbrev pub added_test : ℕ → NetView → Bool
added_test number view = is_added view.name

-- own: the nets of ports, those of original wires by rising number, and the added ones by rising number
abbrev pub net_order : NetlistView → List ℕ
net_order N = port_numbers N.ports ++ numbers_from (wire_test N.ports) 0 N.nets ++ numbers_from added_test 0 N.nets

-- own: the place of a number in a list
abbrev pub place_of : List ℕ → ℕ → ℕ
place_of [] number = 0
place_of (first ∷ numbers) number = if first == number then 0 else suc (place_of numbers number)

-- The netlist with new numbers, and its names in bytes.

-- own: the new number of a net is its place in the order
abbrev pub new_net : List ℕ → NetId → NetId
new_net order net = net_id (place_of order net.0)

-- own: an operand by the new number of its net
abbrev pub new_feed : List ℕ → Feed → Feed
new_feed order (Net net) = Net (new_net order net)
new_feed order (Const value) = Const value

-- own: a port by the new numbers of its nets
abbrev pub new_port : List (List ℕ) → List ℕ → PortView → NamedPort
new_port table order port = record { name = port_text table port.name; dir = port.dir; range = port.range; nets = map (new_net order) port.nets }

-- own: a net with the name and the index by which its bit is written
abbrev pub named_net : Naming → List PortView → ℕ → NamedNet
named_net naming ports number = record { name = (bit_of naming (net_id number)).net; index = (bit_of naming (net_id number)).index; dir = direction ports number }

-- own: a cell with the name by which it is written
abbrev pub new_cell : Naming → List ℕ → ℕ → CellView → NamedCell
new_cell naming order number cell = record {
  kind = cell.kind;
  keeps = is_flop naming.library cell.kind;
  name = option_map (cell_text naming number) cell.name;
  feeds = map (new_feed order) cell.feeds;
  output = option_map (new_net order) cell.output;
}

-- own: the live cells, by rising number; the first place has this number
abbrev pub cells_from : Naming → List ℕ → ℕ → List (Option CellView) → List NamedCell
cells_from naming order number [] = []
cells_from naming order number (None ∷ cells) = cells_from naming order (number + 1) cells
cells_from naming order number (Some cell ∷ cells) = new_cell naming order number cell ∷ cells_from naming order (number + 1) cells

-- own: the netlist, with each net at its place in the order and without the gaps between cells
abbrev pub renumbered : Naming → NetlistView → NamedNetlist
renumbered naming N = record {
  ports = map (new_port naming.table (net_order N)) N.ports;
  nets = map (named_net naming N.ports) (net_order N);
  cells = cells_from naming (net_order N) 0 N.cells;
}

-- The law.

-- own: the list has each number below this one, once, and no other
pub record IsEachOnce (count : ℕ) (order : List ℕ) : Type 0 where
  pub many : length order ≡ count
  pub each : (number : ℕ) → number < count → slice_get order (place_of order number) ≡ Some number
  pub only : (place number : ℕ) → slice_get order place ≡ Some number → number < count
  pub once : (j k number : ℕ) → slice_get order j ≡ Some number → slice_get order k ≡ Some number → j ≡ k

-- own: more live cells, nets or bits of ports than a module may have, in this order
abbrev pub passed_limit : NetlistView → Option LinkFault
passed_limit N =
    or_else (too_many what.Cells 262144 (cell_count N))
    (or_else (too_many what.Nets 524288 (length N.nets))
    (too_many what.Ports 4096 (length (port_numbers N.ports))))

-- own: the tree denotes the netlist with its nets and cells numbered anew; no fault of its text stands but that there
-- is too much, and without that it can be linked
pub record IsWritten (naming : Naming) (N : NetlistView) (tree : Module) : Type 0 where
  pub fault : text_fault N.library tree ≡ passed_limit N
  pub links : passed_limit N ≡ None → IsLinkable N.library tree
  pub denotes : denoted N.library tree ≡ renumbered naming N
  pub nets : IsEachOnce (length N.nets) (net_order N)

-- own: so it is for a linked netlist and a prefix
abbrev pub IsWrittenAs : LinkedView → List ℕ → Module → Type 0
IsWrittenAs linked prefix tree = IsWritten (naming_of linked prefix) linked.arena.lists tree

-- own: with this library the tree denotes what another does, and can be linked as that
pub record DenotesSame (library : List ListedCell) (m tree : Module) : Type 0 where
  pub denotes : denoted library tree ≡ denoted library m
  pub links : IsLinkable library tree
