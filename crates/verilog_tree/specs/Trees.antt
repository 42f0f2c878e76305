-- The tree of a written module, and which written modules have one.
-- IEEE Std 1364-2001: modules and ports (a port's direction may follow the header), data types.
use Rattle.std.specs.Prelude.{◌≡◌, ℕ, List, [], ◌∷◌, ◌++◌, length, map, filter, find, Option, Some, None, Bool, true, false, not, ◌&&◌, ◌||◌, ◌==◌, IsTrue, unwrap_or}
use Rattle.std.specs.List.{flat_map, list_any, list_all}
use Rattle.std.specs.Str.{bytes_eq}
use Rattle.verilog_tree.specs.declared.tree.Dir.TheVariants as dir
use Rattle.verilog_tree.specs.declared.tree.Range.{Range}
use Rattle.verilog_tree.specs.declared.tree.GateKind.{GateKind}
use Rattle.verilog_tree.specs.declared.tree.GateKind.TheVariants as gate
use Rattle.verilog_tree.specs.declared.tree.Operand.{Operand}
use Rattle.verilog_tree.specs.declared.tree.Port.{Port}
use Rattle.verilog_tree.specs.declared.tree.Wire.{Wire}
use Rattle.verilog_tree.specs.declared.tree.Gate.{Gate}
use Rattle.verilog_tree.specs.declared.tree.Instance.{Instance}
use Rattle.verilog_tree.specs.declared.tree.Item.{Item}
use Rattle.verilog_tree.specs.declared.tree.Item.TheVariants as item
use Rattle.verilog_tree.specs.declared.tree.Module.{Module}
use Rattle.verilog_tree.specs.Sources.{DeclarationHead, PortSource, Header, absent, empty, ansi, names, AssignSource, GateSource, InstanceSource, ItemSource, directions, wires, assigns, gates, instances, Source}

-- Declarations and ports.

abbrev pub port_of : DeclarationHead → List ℕ → Port
port_of head name = record { name = name; dir = head.dir; range = head.range }

-- A port without a direction takes direction and range of the port before it.
abbrev pub ports_after : DeclarationHead → List PortSource → List Port
ports_after head [] = []
ports_after head (p ∷ ps) = port_of (unwrap_or p.head head) p.name ∷ ports_after (unwrap_or p.head head) ps

-- what the direction items declare, in order
abbrev pub declared_by : ItemSource → List Port
declared_by (directions head first more) = map (port_of head) (first ∷ more)
declared_by _ = []

abbrev pub declarations : Source → List Port
declarations s = flat_map declared_by s.items

-- the test for a declaration of this name
abbrev pub has_name : List ℕ → Port → Bool
has_name name port = bytes_eq port.name name

-- the port of a header's name, by its declaration; a name without one is no port of any module that is accepted
abbrev pub declared_port : List Port → List ℕ → Port
declared_port declared name = unwrap_or (find (has_name name) declared) (record { name = name; dir = dir.Input; range = None })

abbrev pub header_ports : Header → List Port → List Port
header_ports absent declared = []
header_ports empty declared = []
header_ports (ansi head first more) declared = port_of head first ∷ ports_after head more
header_ports (names first more) declared = map (declared_port declared) (first ∷ more)

-- the names that direction items are to declare
abbrev pub header_names : Header → List (List ℕ)
header_names (names first more) = first ∷ more
header_names _ = []

-- Each declared name stands in the header, and none was declared before.
abbrev pub declares_from : List (List ℕ) → List Port → Bool
declares_from left [] = true
declares_from left (port ∷ ports) = list_any (bytes_eq port.name) left && declares_from (filter (λ name. not (bytes_eq port.name name)) left) ports

-- Each name of the header is declared.
abbrev pub declares_all : List (List ℕ) → List Port → Bool
declares_all left declared = list_all (λ name. list_any (has_name name) declared) left

-- Gates: one input for `buf` and `not`, two for `bufif0` and `bufif1`, one or more for the others.
abbrev pub takes_inputs : GateKind → ℕ → Bool
takes_inputs gate.And count = true
takes_inputs gate.Or count = true
takes_inputs gate.Nand count = true
takes_inputs gate.Nor count = true
takes_inputs gate.Xor count = true
takes_inputs gate.Xnor count = true
takes_inputs gate.Buf count = count == 1
takes_inputs gate.Not count = count == 1
takes_inputs gate.Bufif0 count = count == 2
takes_inputs gate.Bufif1 count = count == 2

abbrev pub gate_inputs : GateSource → List Operand
gate_inputs g = g.first ∷ g.more

abbrev pub item_fits : ItemSource → Bool
item_fits (gates kind first more) = list_all (λ g. takes_inputs kind (length (gate_inputs g))) (first ∷ more)
item_fits _ = true

-- a written module that keeps the rules on direction items and on gates' inputs
pub record IsSource (s : Source) : Type 0 where
  pub fits : IsTrue (list_all item_fits s.items)
  pub declares : IsTrue (declares_from (header_names s.header) (declarations s))
  pub complete : IsTrue (declares_all (header_names s.header) (declarations s))

-- Wires. A wire with a port's name and the same range is the port's net, and no wire of the tree.

abbrev pub range_eq : Option Range → Option Range → Bool
range_eq None None = true
range_eq None (Some r) = false
range_eq (Some r) None = false
range_eq (Some r) (Some s) = r.left == s.left && r.right == s.right

abbrev pub wire_of : Option Range → List ℕ → Wire
wire_of range name = record { name = name; range = range }

abbrev pub item_wires : ItemSource → List Wire
item_wires (wires range first more) = map (wire_of range) (first ∷ more)
item_wires _ = []

abbrev pub is_port_net : List Port → Wire → Bool
is_port_net ports wire = list_any (λ port. bytes_eq port.name wire.name && range_eq port.range wire.range) ports

-- Items: each gate, instance and assignment of a list is an item of its own.

abbrev pub gate_of : GateKind → GateSource → Item
gate_of kind g = item.Gate (record { kind = kind; name = g.name; output = g.output; inputs = gate_inputs g })

abbrev pub instance_of : List ℕ → InstanceSource → Item
instance_of cell i = item.Instance (record { cell = cell; name = i.name; links = i.links })

abbrev pub assign_of : AssignSource → Item
assign_of a = item.Assign a.output a.input

abbrev pub item_items : ItemSource → List Item
item_items (assigns first more) = map assign_of (first ∷ more)
item_items (gates kind first more) = map (gate_of kind) (first ∷ more)
item_items (instances cell first more) = map (instance_of cell) (first ∷ more)
item_items _ = []

abbrev pub ports_of : Source → List Port
ports_of s = header_ports s.header (declarations s)

-- the tree of a written module
abbrev pub tree_of : Source → Module
tree_of s = record {
  name = s.name;
  ports = ports_of s;
  wires = filter (λ wire. not (is_port_net (ports_of s) wire)) (flat_map item_wires s.items);
  items = flat_map item_items s.items;
}
