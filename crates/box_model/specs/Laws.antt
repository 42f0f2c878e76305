-- Laws of opening and closing. Own.
use Rattle.std.specs.Prelude.{◌≡◌, ◌&&◌, ℕ, ◌+◌, IsSome, List, [], ◌++◌, map, take, drop, length, filter, Some, None}
use Rattle.std.specs.List.{AllByRecursion, flat_map, list_any}
use Rattle.std.specs.Option.{option_map_or}
use Rattle.cell_library.specs.declared.listed.ListedCell.{ListedCell}
use Rattle.verilog_tree.specs.declared.tree.Port.{Port}
use Rattle.verilog_tree.specs.declared.tree.Wire.{Wire}
use Rattle.verilog_tree.specs.declared.tree.Item.{Item}
use Rattle.verilog_tree.specs.declared.tree.Item.TheVariants as item
use Rattle.verilog_tree.specs.declared.tree.Module.{Module}
use Rattle.verilog_tree.specs.IsTree.{IsTree}
use Rattle.verilog_tree.specs.declared.tree.Instance.{Instance}
use Rattle.link_model.specs.Lists.{first_in, repeated}
use Rattle.link_model.specs.Nets.{bits_in, declared_nets}
use Rattle.link_model.specs.Faults.{text_fault}
use Rattle.box_model.specs.declared.boxes.BoxLibrary.{BoxLibrary}
use Rattle.box_model.specs.declared.boxes.BoxPort.{BoxPort}
use Rattle.box_model.specs.Sound.{IsSoundLibrary}
use Rattle.box_model.specs.Ports.{of_cells, box_named, cut_ports, hidden_name, other_links}
use Rattle.box_model.specs.Opened.{opened, is_kept_wire, origins}
use Rattle.box_model.specs.Counts.{added_bits}
use Rattle.box_model.specs.Closed.{has_port, closed, ordered, own_ports, present_ports}
use Rattle.box_model.specs.Faults.{unknown_cut, used_names, is_bit_word, Hidden, name_fault, box_fault}

-- Without boxes and cuts nothing changes.

abbrev pub BoxlessOpens : Type 0
BoxlessOpens = (cells : List ListedCell) (k : ℕ) (m : Module) → opened (of_cells cells) k m ≡ m

abbrev pub BoxlessCloses : Type 0
BoxlessCloses = (cells : List ListedCell) (m : Module) → closed (of_cells cells) m ≡ m

abbrev pub BoxlessStaysOrdered : Type 0
BoxlessStaysOrdered = (cells : List ListedCell) (m : Module) → ordered (of_cells cells) m ≡ m

abbrev pub BoxlessIsClear : Type 0
BoxlessIsClear = (cells : List ListedCell) (m : Module) → box_fault (of_cells cells) m ≡ None

-- Closing gives back what was opened.

-- no port is joined
abbrev pub IsUnjoined : BoxLibrary → Module → Type 0
IsUnjoined B m = filter (is_kept_wire B m) m.wires ≡ m.wires

abbrev pub ClosedIsBack : Type 0
ClosedIsBack = (B : BoxLibrary) (m : Module) → box_fault B m ≡ None → IsUnjoined B m → closed B (opened B (length m.ports) m) ≡ ordered B m

-- Opening gives back what was closed.

-- the names of ports and wires
abbrev pub net_names : Module → List (List ℕ)
net_names m = map (λ (p : Port). p.name) m.ports ++ map (λ (w : Wire). w.name) m.wires

-- a box instance has no link of a cut port
abbrev pub IsBare : BoxLibrary → Item → Type 0
IsBare B (item.Instance i) = (ports : List BoxPort) → cut_ports B i ≡ Some ports → other_links ports i.links ≡ i.links
IsBare B (item.Gate g) = Unit {0}
IsBare B (item.Assign output input) = Unit {0}

-- hidden ports stand together behind so many others, in the order of instances and cut ports; no two ports and wires
-- have one name; and no cut port is linked
pub record IsInShape (B : BoxLibrary) (k : ℕ) (m : Module) : Type 0 where
  pub ports : m.ports ≡ take k (own_ports B m) ++ (present_ports B m ++ drop k (own_ports B m))
  pub apart : repeated (net_names m) ≡ None
  pub bare : AllByRecursion (IsBare B) m.items

-- what is opened is in shape, where no two ports and wires had one name before
abbrev pub OpenedIsInShape : Type 0
OpenedIsInShape = (B : BoxLibrary) (k : ℕ) (m : Module) → box_fault B m ≡ None → repeated (net_names m) ≡ None → IsInShape B k (opened B k m)

abbrev pub OpenedIsBack : Type 0
OpenedIsBack = (B : BoxLibrary) (k : ℕ) (m : Module) → IsInShape B k m → opened B k (closed B m) ≡ m

-- A closed module's boxes are without fault.

-- a hidden name: whether its port stands there, which its wire joins then; and whether an own port is named as a bit of it
abbrev pub standing_of : BoxLibrary → Module → Instance → BoxPort → Hidden
standing_of B m i p = record {
  name = hidden_name i.name p.name;
  joined = has_port m (hidden_name i.name p.name);
  clashes = has_port m (hidden_name i.name p.name) && list_any (is_bit_word (hidden_name i.name p.name) p.range) (own_ports B m);
}

abbrev pub item_standing : BoxLibrary → Module → Item → List Hidden
item_standing B m (item.Instance i) = option_map_or (map (standing_of B m i)) (cut_ports B i) []
item_standing B m (item.Gate g) = []
item_standing B m (item.Assign output input) = []

-- nothing of a box is linked
abbrev pub IsEmptyBox : BoxLibrary → Item → Type 0
IsEmptyBox B (item.Instance i) = IsSome (box_named B i.cell) → i.links ≡ []
IsEmptyBox B (item.Gate g) = Unit {0}
IsEmptyBox B (item.Assign output input) = Unit {0}

-- the module denotes a netlist, its cuts are known, its boxes are empty, and hidden names are as they may be
pub record CanClose (B : BoxLibrary) (m : Module) : Type 0 where
  pub denotes : text_fault B.cells m ≡ None
  pub cuts : first_in (unknown_cut B m) B.cuts ≡ None
  pub empty : AllByRecursion (IsEmptyBox B) m.items
  pub names : name_fault (used_names m) [] (flat_map (item_standing B m) m.items) ≡ None

abbrev pub ClosedIsClear : Type 0
ClosedIsClear = (B : BoxLibrary) (k : ℕ) (m : Module) → IsInShape B k m → CanClose B m → box_fault B (closed B m) ≡ None

-- What is opened or closed is a tree that some text spells.

abbrev pub ClosedIsTree : Type 0
ClosedIsTree = (B : BoxLibrary) (m : Module) → IsSoundLibrary B → IsTree m → IsTree (closed B m)

abbrev pub OpenedIsTree : Type 0
OpenedIsTree = (B : BoxLibrary) (k : ℕ) (m : Module) → IsSoundLibrary B → IsTree m → box_fault B m ≡ None → IsTree (opened B k m)

-- Cells and nets of the opened module are as many as they were counted before it was made.

abbrev pub OpenedItemsAreCounted : Type 0
OpenedItemsAreCounted = (B : BoxLibrary) (k : ℕ) (m : Module) → box_fault B m ≡ None → length (opened B k m).items ≡ added_bits B m + length m.items

abbrev pub OpenedNetsAreCounted : Type 0
OpenedNetsAreCounted = (B : BoxLibrary) (k : ℕ) (m : Module) → box_fault B m ≡ None → bits_in (declared_nets (opened B k m)) ≡ added_bits B m + bits_in (declared_nets m)

-- Each item of the opened module has an origin.
abbrev pub OriginsAreAsMany : Type 0
OriginsAreAsMany = (B : BoxLibrary) (k : ℕ) (m : Module) → length (origins B m) ≡ length (opened B k m).items
