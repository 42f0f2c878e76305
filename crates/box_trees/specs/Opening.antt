-- own: what comes of links, ports and items while boxes are opened, and the names of the wires that join ports.
use Rattle.std.specs.Prelude.{ℕ, ◌==◌, List, [], ◌∷◌, Option, None, if◌then◌else◌}
use Rattle.std.specs.List.{flat_map}
use Rattle.std.specs.Option.{option_map_or}
use Rattle.verilog_tree.specs.declared.tree.Range.{Range}
use Rattle.verilog_tree.specs.declared.tree.Operand.{Operand}
use Rattle.verilog_tree.specs.declared.tree.Operand.TheVariants as operand
use Rattle.verilog_tree.specs.declared.tree.Instance.{Instance}
use Rattle.verilog_tree.specs.declared.tree.Item.{Item}
use Rattle.verilog_tree.specs.declared.tree.Item.TheVariants as item
use Rattle.verilog_tree.specs.declared.tree.Module.{Module}
use Rattle.link_model.specs.Nets.{width}
use Rattle.box_model.specs.declared.boxes.BoxLibrary.{BoxLibrary}
use Rattle.box_model.specs.declared.boxes.BoxPort.{BoxPort}
use Rattle.box_model.specs.Ports.{cut_ports, hidden_name, bits_of, linked_to, other_links}
use Rattle.box_model.specs.Opened.{link_bits, assigns}
use Rattle.box_tables.specs.Nets.{range_named, is_joined_as}

-- the range of the vector that a link is
abbrev pub whole_range : Module → BoxPort → Operand → Option (Option Range)
whole_range m p (operand.Const value) = None
whole_range m p (operand.Bit b) = if width p.range == 1 then None else range_named m b.net

-- Ports by their hidden names.

abbrev pub assigns_of : Module → List ℕ → BoxPort → Operand → List Item
assigns_of m name p o = assigns p.dir (bits_of name p.range) (link_bits m p o)

abbrev pub items_as : Module → List ℕ → BoxPort → Operand → List Item
items_as m name p o = if is_joined_as m name p.range o then [] else assigns_of m name p o

abbrev pub joined_as : Module → List ℕ → BoxPort → Operand → List (List ℕ)
joined_as m name p o = if is_joined_as m name p.range o then name ∷ [] else []

-- Ports at instances.

abbrev pub linked_items : Module → Instance → BoxPort → Operand → List Item
linked_items m i p o = items_as m (hidden_name i.name p.name) p o

abbrev pub linked_joined : Module → Instance → BoxPort → Operand → List (List ℕ)
linked_joined m i p o = joined_as m (hidden_name i.name p.name) p o

abbrev pub port_joined : Module → Instance → BoxPort → List (List ℕ)
port_joined m i p = option_map_or (linked_joined m i p) (linked_to i.links p.name) []

abbrev pub bare_instance : List BoxPort → Instance → Instance
bare_instance ports i = record i { links = other_links ports i.links }

abbrev pub item_joined : BoxLibrary → Module → Item → List (List ℕ)
item_joined B m (item.Instance i) = option_map_or (flat_map (port_joined m i)) (cut_ports B i) []
item_joined B m (item.Gate g) = []
item_joined B m (item.Assign output input) = []

-- the names of the wires that join ports
abbrev pub joined_names : BoxLibrary → Module → List Item → List (List ℕ)
joined_names B m items = flat_map (item_joined B m) items
