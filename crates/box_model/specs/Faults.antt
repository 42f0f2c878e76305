-- When the boxes of a module can't be opened. `BoxTristate` is told of the linked netlist. Own.
use Rattle.std.specs.Prelude.{ℕ, ◌==◌, ◌&&◌, ◌||◌, nat_lt, Bool, true, false, not, List, [], ◌∷◌, ◌++◌, map, find, length, Option, Some, None, is_some, option_and_then, if◌then◌else◌}
use Rattle.std.specs.Fmt.{decimal}
use Rattle.std.specs.List.{flat_map, filter_map, list_any}
use Rattle.std.specs.Option.{option_map, option_map_or}
use Rattle.std.specs.Str.{bytes_eq}
use Rattle.verilog_tree.specs.declared.tree.Range.{Range}
use Rattle.verilog_tree.specs.declared.tree.Operand.{Operand}
use Rattle.verilog_tree.specs.declared.tree.Operand.TheVariants as operand
use Rattle.verilog_tree.specs.declared.tree.Link.{Link}
use Rattle.verilog_tree.specs.declared.tree.Port.{Port}
use Rattle.verilog_tree.specs.declared.tree.Wire.{Wire}
use Rattle.verilog_tree.specs.declared.tree.Instance.{Instance}
use Rattle.verilog_tree.specs.declared.tree.Item.{Item}
use Rattle.verilog_tree.specs.declared.tree.Item.TheVariants as item
use Rattle.verilog_tree.specs.declared.tree.Module.{Module}
use Rattle.link_model.specs.Lists.{or_else, first_in, has_name}
use Rattle.link_model.specs.Nets.{Declared, width, is_within, declared_names, declared_as}
use Rattle.link_model.specs.Faults.{item_name}
use Rattle.box_model.specs.declared.boxes.BoxLibrary.{BoxLibrary}
use Rattle.box_model.specs.declared.fault.BoxFault.{BoxFault}
use Rattle.box_model.specs.declared.fault.BoxFault.TheVariants.{BoxUnknown, BoxLink, BoxName}
use Rattle.box_model.specs.declared.boxes.BoxPort.{BoxPort}
use Rattle.box_model.specs.declared.boxes.BoxDir.{BoxDir}
use Rattle.box_model.specs.declared.boxes.BoxDir.TheVariants.{Takes, Gives}
use Rattle.box_model.specs.Ports.{box_named, flop_output, cut_ports, hidden_name, indexes_of, linked_to}
use Rattle.box_model.specs.Opened.{is_joined}

-- Cuts.

abbrev pub is_flop_of : BoxLibrary → List ℕ → Item → Bool
is_flop_of B name (item.Instance i) = bytes_eq i.name name && is_some (flop_output B i.cell)
is_flop_of B name (item.Gate g) = false
is_flop_of B name (item.Assign output input) = false

abbrev pub unknown_cut : BoxLibrary → Module → List ℕ → Option BoxFault
unknown_cut B m name = if list_any (is_flop_of B name) m.items then None else Some (BoxUnknown name)

-- Links.

abbrev pub gives : BoxDir → Bool
gives Gives = true
gives Takes = false

abbrev pub is_one : BoxPort → Bool
is_one p = width p.range == 1

-- the index is one of what is declared
abbrev pub holds_index : Option Range → ℕ → Bool
holds_index None index = false
holds_index (Some r) index = is_within r index

abbrev pub fits_net : BoxPort → Option ℕ → Declared → Bool
fits_net p None d = width d.range == width p.range
fits_net p (Some index) d = is_one p && holds_index d.range index

-- the operand has the port's bits
abbrev pub fits_operand : Module → BoxPort → Operand → Bool
fits_operand m p (operand.Const value) = not (gives p.dir) && is_one p
fits_operand m p (operand.Bit b) = option_map_or (fits_net p b.index) (declared_as (declared_names m) b.net) false

abbrev pub port_named : List BoxPort → List ℕ → Option BoxPort
port_named ports name = find (λ (p : BoxPort). bytes_eq p.name name) ports

-- a link is at fault behind those of these ports; one of no cut port is another's affair at a flip-flop
abbrev pub is_bad_link : Module → List BoxPort → Bool → List (List ℕ) → Link → Bool
is_bad_link m ports whole had l =
    option_map_or (λ p. has_name had l.port || option_map_or (λ o. not (fits_operand m p o)) l.operand false) (port_named ports l.port) whole

abbrev pub bad_link : Module → List BoxPort → Bool → List (List ℕ) → List Link → Option (List ℕ)
bad_link m ports whole had [] = None
bad_link m ports whole had (l ∷ links) = if is_bad_link m ports whole had l then Some l.port else bad_link m ports whole (had ++ l.port ∷ []) links

abbrev pub link_fault : BoxLibrary → Module → Item → Option BoxFault
link_fault B m (item.Instance i) =
    option_and_then (λ ports. option_map (BoxLink i.name) (bad_link m ports (is_some (box_named B i.cell)) [] i.links)) (cut_ports B i)
link_fault B m (item.Gate g) = None
link_fault B m (item.Assign output input) = None

-- Names.

-- the names that an item has as operand, output or link
abbrev pub operand_name : Operand → List (List ℕ)
operand_name (operand.Bit b) = b.net ∷ []
operand_name (operand.Const value) = []

abbrev pub linked_name : Link → List (List ℕ)
linked_name l = option_map_or operand_name l.operand []

abbrev pub named_by : Item → List (List ℕ)
named_by (item.Gate g) = g.output.net ∷ flat_map operand_name g.inputs
named_by (item.Instance i) = flat_map linked_name i.links
named_by (item.Assign output input) = output.net ∷ operand_name input

-- the names that stand in a module
abbrev pub used_names : Module → List (List ℕ)
used_names m =
    map (λ (p : Port). p.name) m.ports
    ++ (map (λ (w : Wire). w.name) m.wires
    ++ (filter_map item_name m.items
    ++ flat_map named_by m.items))

-- the word of a bit of a vector, as a start line would name it
abbrev pub bit_word : List ℕ → ℕ → List ℕ
bit_word name index = name ++ 91 ∷ decimal index ++ 93 ∷ []

-- a scalar port has the word of a bit of this vector as its name
abbrev pub is_bit_word : List ℕ → Option Range → Port → Bool
is_bit_word name None q = false
is_bit_word name (Some r) q = option_map_or (λ (range : Range). false) q.range (list_any (λ index. is_within r index && bytes_eq q.name (bit_word name index)) (indexes_of r))

-- a hidden name, whether a wire of it joins the port, and whether a scalar port is named as a bit of it
pub record Hidden : Type 0 where
  pub name : List ℕ
  pub joined : Bool
  pub clashes : Bool

abbrev pub hidden_of : Module → Instance → BoxPort → Hidden
hidden_of m i p = record {
  name = hidden_name i.name p.name;
  joined = option_map_or (is_joined m i p) (linked_to i.links p.name) false;
  clashes = option_map_or (λ (o : Operand). list_any (is_bit_word (hidden_name i.name p.name) p.range) m.ports) (linked_to i.links p.name) false;
}

abbrev pub item_hidden : BoxLibrary → Module → Item → List Hidden
item_hidden B m (item.Instance i) = option_map_or (map (hidden_of m i)) (cut_ports B i) []
item_hidden B m (item.Gate g) = []
item_hidden B m (item.Assign output input) = []

abbrev pub is_bad_name : List (List ℕ) → List (List ℕ) → Hidden → Bool
is_bad_name used before h = nat_lt 255 (length h.name) || (h.clashes || ((has_name used h.name && not h.joined) || has_name before h.name))

abbrev pub name_fault : List (List ℕ) → List (List ℕ) → List Hidden → Option BoxFault
name_fault used before [] = None
name_fault used before (h ∷ hs) = if is_bad_name used before h then Some (BoxName h.name) else name_fault used (before ++ h.name ∷ []) hs

-- The first fault: cuts, links, names.
abbrev pub box_fault : BoxLibrary → Module → Option BoxFault
box_fault B m =
    or_else (first_in (unknown_cut B m) B.cuts)
    (or_else (first_in (link_fault B m) m.items)
    (name_fault (used_names m) [] (flat_map (item_hidden B m) m.items)))
