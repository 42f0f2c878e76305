-- The tree that a linked netlist is written as.
-- IEEE Std 1364-2001: modules and ports, data types, gate-level modelling, continuous assignments, module instances;
-- the names of added nets and cells are own.
use Rattle.std.specs.Prelude.{ℕ, ◌+◌, false, List, [], ◌∷◌, ◌++◌, map, slice_get, unwrap_or, Option, Some, None}
use Rattle.std.specs.Option.{option_map}
use Rattle.std.specs.Fmt.{decimal}
use Rattle.verilog_tree.specs.declared.tree.Bit.{Bit}
use Rattle.verilog_tree.specs.declared.tree.Dir as tree
use Rattle.verilog_tree.specs.declared.tree.Dir.TheVariants as tree_dir
use Rattle.verilog_tree.specs.declared.tree.GateKind.{GateKind}
use Rattle.verilog_tree.specs.declared.tree.GateKind.TheVariants as gate
use Rattle.verilog_tree.specs.declared.tree.Item.{Item}
use Rattle.verilog_tree.specs.declared.tree.Item.TheVariants as item
use Rattle.verilog_tree.specs.declared.tree.Link.{Link}
use Rattle.verilog_tree.specs.declared.tree.Module.{Module}
use Rattle.verilog_tree.specs.declared.tree.Operand.{Operand}
use Rattle.verilog_tree.specs.declared.tree.Operand.TheVariants as operand
use Rattle.verilog_tree.specs.declared.tree.Port.{Port}
use Rattle.verilog_tree.specs.declared.tree.Range as tree_range
use Rattle.verilog_tree.specs.declared.tree.Wire.{Wire}
use Rattle.cell_library.specs.declared.listed.ListedCell.{ListedCell}
use Rattle.cell_library.specs.declared.Kind.{Kind}
use Rattle.cell_library.specs.declared.Kind.TheVariants as kind
use Rattle.cell_library.specs.Library.{cell_name, operand_ports, output_port}
use Rattle.netlist_model.specs.declared.Dir.{Dir}
use Rattle.netlist_model.specs.declared.Dir.TheVariants as dir
use Rattle.netlist_model.specs.declared.Feed.{Feed}
use Rattle.netlist_model.specs.declared.Feed.TheVariants.{Net, Const}
use Rattle.netlist_model.specs.declared.Name.{Name}
use Rattle.netlist_model.specs.declared.Name.TheVariants.{Original, Added}
use Rattle.netlist_model.specs.declared.NetId.{NetId}
use Rattle.netlist_model.specs.declared.Range.{Range}
use Rattle.netlist_model.specs.Lists.{PortView, NetView, CellView}
use Rattle.netlist_link.specs.Linked.{LinkedView}
use Rattle.netlist_unlink.specs.declared.rows.NetRow.{NetRow}
use Rattle.netlist_unlink.specs.Rows.{rows}

-- own: what names are spelled by: the listed cells, the table of original names, the prefix of added ones, and the nets
pub record Naming : Type 0 where
  pub library : List ListedCell
  pub table : List (List ℕ)
  pub prefix : List ℕ
  pub nets : List NetView

-- own: the bytes of an original name
abbrev pub original : List (List ℕ) → ℕ → List ℕ
original table number = unwrap_or (slice_get table number) []

-- own: `<prefix>`, a letter, and the number in decimal
abbrev pub added : List ℕ → ℕ → ℕ → List ℕ
added prefix letter number = prefix ++ letter ∷ decimal number

-- own: an original name as the table has it; that of an added net or cell by its letter and number
abbrev pub spelled : Naming → ℕ → ℕ → Name → List ℕ
spelled naming letter number (Original place) = original naming.table place
spelled naming letter number (Added _) = added naming.prefix letter number

-- bit selects: the name of a net, whose letter is `n`, and its index where it has one
abbrev pub view_bit : Naming → ℕ → Option NetView → Bit
view_bit naming net None = record { net = []; index = None }
view_bit naming net (Some view) = record { net = spelled naming 110 net view.name; index = view.index }

-- own: the bit that a net is
abbrev pub bit_of : Naming → NetId → Bit
bit_of naming net = view_bit naming net.0 (slice_get naming.nets net.0)

-- own: what a cell reads: a bit or a constant
abbrev pub operand_of : Naming → Feed → Operand
operand_of naming (Net net) = operand.Bit (bit_of naming net)
operand_of naming (Const value) = operand.Const value

-- own: the bit of a cell's output, and the first operand; a gate and an `assign` have them
abbrev pub output_bit : Naming → Option NetId → Bit
output_bit naming None = record { net = []; index = None }
output_bit naming (Some net) = bit_of naming net

-- own: the first operand, or 0 where there is none
abbrev pub first_operand : Naming → List Feed → Operand
first_operand naming [] = operand.Const false
first_operand naming (feed ∷ feeds) = operand_of naming feed

-- module instances: a link of each port to the operand at its place
abbrev pub operand_links : Naming → List (List ℕ) → List Feed → List Link
operand_links naming [] feeds = []
operand_links naming (port ∷ ports) [] = []
operand_links naming (port ∷ ports) (feed ∷ feeds) = record { port = port; operand = Some (operand_of naming feed) } ∷ operand_links naming ports feeds

-- own: an output that is not connected has no link
abbrev pub output_links : Naming → Option (List ℕ) → Option NetId → List Link
output_links naming None output = []
output_links naming (Some port) None = []
output_links naming (Some port) (Some net) = record { port = port; operand = Some (operand.Bit (bit_of naming net)) } ∷ []

-- gate-level modelling: the gate of a kind; an `assign`, the library cells and the listed ones have none
abbrev pub gate_of : Kind → Option GateKind
gate_of kind.And = Some gate.And
gate_of kind.Or = Some gate.Or
gate_of kind.Nand = Some gate.Nand
gate_of kind.Nor = Some gate.Nor
gate_of kind.Xor = Some gate.Xor
gate_of kind.Xnor = Some gate.Xnor
gate_of kind.Buf = Some gate.Buf
gate_of kind.Not = Some gate.Not
gate_of kind.Bufif0 = Some gate.Bufif0
gate_of kind.Bufif1 = Some gate.Bufif1
gate_of kind.Assign = None
gate_of kind.Mux2 = None
gate_of (kind.Flop flop) = None
gate_of (kind.Listed number) = None

-- own: the name of a cell, whose letter is `c`
abbrev pub cell_text : Naming → ℕ → Name → List ℕ
cell_text naming number name = spelled naming 99 number name

-- a cell as a gate, as an instance of a library cell or a listed one, or as an `assign`
abbrev pub written : Naming → ℕ → CellView → Option GateKind → Option (List ℕ) → Item
written naming number cell (Some kind) library = item.Gate (record {
  kind = kind;
  name = option_map (cell_text naming number) cell.name;
  output = output_bit naming cell.output;
  inputs = map (operand_of naming) cell.feeds;
})
written naming number cell None (Some library) = item.Instance (record {
  cell = library;
  name = unwrap_or (option_map (cell_text naming number) cell.name) [];
  links = operand_links naming (operand_ports naming.library cell.kind) cell.feeds ++ output_links naming (output_port naming.library cell.kind) cell.output;
})
written naming number cell None None = item.Assign (output_bit naming cell.output) (first_operand naming cell.feeds)

-- own: the item of a cell, by its kind
abbrev pub item_of : Naming → ℕ → CellView → Item
item_of naming number cell = written naming number cell (gate_of cell.kind) (cell_name naming.library cell.kind)

-- own: the items of the live cells, by rising number; the first place has this number
abbrev pub items_from : Naming → ℕ → List (Option CellView) → List Item
items_from naming number [] = []
items_from naming number (None ∷ cells) = items_from naming (number + 1) cells
items_from naming number (Some cell ∷ cells) = item_of naming number cell ∷ items_from naming (number + 1) cells

-- own: a direction as the tree has it
abbrev pub dir_of : Dir → tree.Dir
dir_of dir.Input = tree_dir.Input
dir_of dir.Output = tree_dir.Output
dir_of dir.Inout = tree_dir.Inout

-- own: a range as the tree has it
abbrev pub range_of : Range → tree_range.Range
range_of range = record { left = range.left; right = range.right }

-- own: a port has an original name
abbrev pub port_text : List (List ℕ) → Name → List ℕ
port_text table (Original number) = original table number
port_text table (Added number) = []

-- own: a port as the tree has it
abbrev pub port_of : List (List ℕ) → PortView → Port
port_of table port = record { name = port_text table port.name; dir = dir_of port.dir; range = option_map range_of port.range }

-- own: a row of nets as a wire
abbrev pub wire_of : List (List ℕ) → NetRow → Wire
wire_of table row = record { name = original table row.name; range = row.range }

-- own: an added net is a scalar wire, with its number
abbrev pub added_wire : List ℕ → ℕ → Name → List Wire
added_wire prefix number (Original place) = []
added_wire prefix number (Added _) = record { name = added prefix 110 number; range = None } ∷ []

-- own: the added nets, of which the first net has this number
abbrev pub added_from : List ℕ → ℕ → List NetView → List Wire
added_from prefix number [] = []
added_from prefix number (view ∷ nets) = added_wire prefix number view.name ++ added_from prefix (number + 1) nets

-- own: what the names of a linked netlist are spelled by
abbrev pub naming_of : LinkedView → List ℕ → Naming
naming_of linked prefix = record { library = linked.arena.lists.library; table = linked.names; prefix = prefix; nets = linked.arena.lists.nets }

-- own: the ports, the original wires in the order of their first nets, the added nets, and the cells
abbrev pub tree_of : LinkedView → List ℕ → Module
tree_of linked prefix = record {
  name = linked.module_name;
  ports = map (port_of linked.names) linked.arena.lists.ports;
  wires = map (wire_of linked.names) (rows linked.arena.lists.ports linked.arena.lists.nets) ++ added_from prefix 0 linked.arena.lists.nets;
  items = items_from (naming_of linked prefix) 0 linked.arena.lists.cells;
}
