-- The limits of the opened module, told from widths before it is made. Own.
use Rattle.std.specs.Prelude.{ℕ, ◌+◌, List, map, sum_by, length, Option, if◌then◌else◌}
use Rattle.std.specs.Option.{option_map_or}
use Rattle.verilog_tree.specs.declared.tree.Operand.{Operand}
use Rattle.verilog_tree.specs.declared.tree.Instance.{Instance}
use Rattle.verilog_tree.specs.declared.tree.Item.{Item}
use Rattle.verilog_tree.specs.declared.tree.Item.TheVariants as item
use Rattle.verilog_tree.specs.declared.tree.Module.{Module}
use Rattle.netlist_model.specs.declared.What.TheVariants as what
use Rattle.link_model.specs.declared.fault.LinkFault.{LinkFault}
use Rattle.link_model.specs.Lists.{or_else, first_in}
use Rattle.link_model.specs.Nets.{width, bits_in, port_nets, declared_nets}
use Rattle.link_model.specs.Faults.{too_many, gate_operands}
use Rattle.box_model.specs.declared.boxes.BoxLibrary.{BoxLibrary}
use Rattle.box_model.specs.declared.boxes.BoxPort.{BoxPort}
use Rattle.box_model.specs.Ports.{cut_ports, linked_to}
use Rattle.box_model.specs.Opened.{is_joined}

-- how many bits of a cut port get an assign
abbrev pub parted_at : Module → Instance → BoxPort → ℕ
parted_at m i p = option_map_or (λ (o : Operand). if is_joined m i p o then 0 else width p.range) (linked_to i.links p.name) 0

abbrev pub parted_bits : BoxLibrary → Module → Item → ℕ
parted_bits B m (item.Instance i) = option_map_or (λ (ports : List BoxPort). sum_by (parted_at m i) ports) (cut_ports B i) 0
parted_bits B m (item.Gate g) = 0
parted_bits B m (item.Assign output input) = 0

-- how many cells, and how many nets, the opened module has more
abbrev pub added_bits : BoxLibrary → Module → ℕ
added_bits B m = sum_by (parted_bits B m) m.items

-- the first limit that the opened module passes; of port bits its own are counted
abbrev pub opened_excess : BoxLibrary → Module → Option LinkFault
opened_excess B m =
    or_else (too_many what.Cells 262144 (added_bits B m + length m.items))
    (or_else (too_many what.Nets 524288 (added_bits B m + bits_in (declared_nets m)))
    (or_else (too_many what.Ports 4096 (bits_in (map port_nets m.ports)))
    (first_in (λ i. too_many what.Operands 256 (gate_operands i)) m.items)))
