-- own: the limits of a module that has so many cells and nets more.
use Rattle.std.specs.Prelude.{ℕ, ◌+◌, map, length, Option, if◌then◌else◌}
use Rattle.verilog_tree.specs.declared.tree.Operand.{Operand}
use Rattle.verilog_tree.specs.declared.tree.Instance.{Instance}
use Rattle.verilog_tree.specs.declared.tree.Module.{Module}
use Rattle.netlist_model.specs.declared.What.TheVariants as what
use Rattle.link_model.specs.declared.fault.LinkFault.{LinkFault}
use Rattle.link_model.specs.Lists.{or_else, first_in}
use Rattle.link_model.specs.Nets.{width, bits_in, port_nets, declared_nets}
use Rattle.link_model.specs.Faults.{too_many, gate_operands}
use Rattle.box_model.specs.declared.boxes.BoxPort.{BoxPort}
use Rattle.box_model.specs.Opened.{is_joined}

-- the first limit that is passed; of port bits those of the module are counted
abbrev pub excess_with : ℕ → Module → Option LinkFault
excess_with added m =
    or_else (too_many what.Cells 262144 (added + length m.items))
    (or_else (too_many what.Nets 524288 (added + bits_in (declared_nets m)))
    (or_else (too_many what.Ports 4096 (bits_in (map port_nets m.ports)))
    (first_in (λ i. too_many what.Operands 256 (gate_operands i)) m.items)))

-- how many bits of a port that is linked so get an assign
abbrev pub linked_bits : Module → Instance → BoxPort → Operand → ℕ
linked_bits m i p o = if is_joined m i p o then 0 else width p.range
