-- A module with its boxes opened: hidden ports behind its first ones, and an assign for each linked bit.
-- IEEE Std 1364-2001: continuous assignments, port connections; the cut is own.
use Rattle.std.specs.Prelude.{ℕ, suc, count_by, ◌==◌, ◌&&◌, Bool, true, false, not, List, [], ◌∷◌, ◌++◌, map, filter, take, drop, Option, Some, None, if◌then◌else◌}
use Rattle.std.specs.List.{flat_map, filter_map, list_any}
use Rattle.std.specs.Option.{option_map, option_map_or}
use Rattle.std.specs.Str.{bytes_eq}
use Rattle.verilog_tree.specs.declared.tree.Range.{Range}
use Rattle.verilog_tree.specs.declared.tree.Bit.{Bit}
use Rattle.verilog_tree.specs.declared.tree.Operand.{Operand}
use Rattle.verilog_tree.specs.declared.tree.Operand.TheVariants as operand
use Rattle.verilog_tree.specs.declared.tree.Port.{Port}
use Rattle.verilog_tree.specs.declared.tree.Wire.{Wire}
use Rattle.verilog_tree.specs.declared.tree.Instance.{Instance}
use Rattle.verilog_tree.specs.declared.tree.Item.{Item}
use Rattle.verilog_tree.specs.declared.tree.Item.TheVariants as item
use Rattle.verilog_tree.specs.declared.tree.Module.{Module}
use Rattle.verilog_tree.specs.Trees.{range_eq}
use Rattle.link_model.specs.Nets.{Declared, NetDeclaration, width, declared_nets, declared_names, declared_as}
use Rattle.box_model.specs.declared.boxes.BoxLibrary.{BoxLibrary}
use Rattle.box_model.specs.declared.boxes.BoxPort.{BoxPort}
use Rattle.box_model.specs.declared.boxes.BoxDir.{BoxDir}
use Rattle.box_model.specs.declared.boxes.BoxDir.TheVariants.{Takes, Gives}
use Rattle.box_model.specs.Ports.{cut_ports, hidden_name, hidden_port, hidden_bits, bits_of, linked_to, other_links}

-- Joined ports: a wire of the hidden name.

abbrev pub is_wire_as : List ℕ → Option Range → Wire → Bool
is_wire_as name range w = bytes_eq w.name name && range_eq w.range range

abbrev pub names_whole : List ℕ → Operand → Bool
names_whole name (operand.Const value) = false
names_whole name (operand.Bit b) = bytes_eq b.net name && option_map_or (λ index. false) b.index true

abbrev pub is_declared_as : List ℕ → NetDeclaration → Bool
is_declared_as name net = bytes_eq net.name name

-- the wire is the one declaration of its name
abbrev pub is_joined : Module → Instance → BoxPort → Operand → Bool
is_joined m i p o =
    names_whole (hidden_name i.name p.name) o
    && (list_any (is_wire_as (hidden_name i.name p.name) p.range) m.wires
    && count_by (is_declared_as (hidden_name i.name p.name)) (declared_nets m) == 1)

-- Bits of a link.

abbrev pub whole_bits : Bit → Option Declared → List Operand
whole_bits b None = operand.Bit b ∷ []
whole_bits b (Some d) = map (λ c. operand.Bit c) (bits_of b.net d.range)

-- the operands of a port's bits, from the left; at a port of one bit the link's own
abbrev pub link_bits : Module → BoxPort → Operand → List Operand
link_bits m p (operand.Const value) = operand.Const value ∷ []
link_bits m p (operand.Bit b) = if width p.range == 1 then operand.Bit b ∷ [] else whole_bits b (declared_as (declared_names m) b.net)

-- Assigns.

abbrev pub assign_out : Bit → Operand → List Item
assign_out hidden (operand.Bit b) = item.Assign b (operand.Bit hidden) ∷ []
assign_out hidden (operand.Const value) = []

abbrev pub assign_by : BoxDir → Bit → Operand → List Item
assign_by Gives hidden o = assign_out hidden o
assign_by Takes hidden o = item.Assign hidden o ∷ []

abbrev pub assigns : BoxDir → List Bit → List Operand → List Item
assigns d [] os = []
assigns d (b ∷ bs) [] = []
assigns d (b ∷ bs) (o ∷ os) = assign_by d b o ++ assigns d bs os

abbrev pub port_items : Module → Instance → BoxPort → List Item
port_items m i p = option_map_or (λ o. if is_joined m i p o then [] else assigns p.dir (hidden_bits i p) (link_bits m p o)) (linked_to i.links p.name) []

-- the instance without the links that are cut, and the assigns in their place
abbrev pub opened_instance : Module → Instance → List BoxPort → List Item
opened_instance m i ports = item.Instance (record i { links = other_links ports i.links }) ∷ flat_map (port_items m i) ports

abbrev pub opened_item : BoxLibrary → Module → Item → List Item
opened_item B m (item.Instance i) = option_map_or (opened_instance m i) (cut_ports B i) (item.Instance i ∷ [])
opened_item B m (item.Gate g) = item.Gate g ∷ []
opened_item B m (item.Assign output input) = item.Assign output input ∷ []

-- of each item of the opened module, the number of the item that it comes from, where the first of these has this number
abbrev pub origins_from : BoxLibrary → Module → ℕ → List Item → List ℕ
origins_from B m number [] = []
origins_from B m number (i ∷ items) = map (λ (made : Item). number) (opened_item B m i) ++ origins_from B m (suc number) items

abbrev pub origins : BoxLibrary → Module → List ℕ
origins B m = origins_from B m 0 m.items

-- Ports and wires.

abbrev pub hidden_at : Instance → BoxPort → Option Port
hidden_at i p = option_map (λ (o : Operand). hidden_port i p) (linked_to i.links p.name)

abbrev pub item_ports : BoxLibrary → Item → List Port
item_ports B (item.Instance i) = option_map_or (filter_map (hidden_at i)) (cut_ports B i) []
item_ports B (item.Gate g) = []
item_ports B (item.Assign output input) = []

abbrev pub hidden_ports : BoxLibrary → Module → List Port
hidden_ports B m = flat_map (item_ports B) m.items

-- some instance's port is joined by this wire
abbrev pub joins_port : Module → Wire → Instance → BoxPort → Bool
joins_port m w i p = bytes_eq w.name (hidden_name i.name p.name) && option_map_or (is_joined m i p) (linked_to i.links p.name) false

abbrev pub joins_item : BoxLibrary → Module → Wire → Item → Bool
joins_item B m w (item.Instance i) = option_map_or (list_any (joins_port m w i)) (cut_ports B i) false
joins_item B m w (item.Gate g) = false
joins_item B m w (item.Assign output input) = false

abbrev pub is_kept_wire : BoxLibrary → Module → Wire → Bool
is_kept_wire B m w = not (list_any (joins_item B m w) m.items)

-- The module with its boxes opened, its hidden ports behind so many.
abbrev pub opened : BoxLibrary → ℕ → Module → Module
opened B k m = record {
  name = m.name;
  ports = take k m.ports ++ (hidden_ports B m ++ drop k m.ports);
  wires = filter (is_kept_wire B m) m.wires;
  items = flat_map (opened_item B m) m.items;
}
