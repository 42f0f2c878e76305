-- The module without its test logic.
-- IEEE Std 1149.1-2001: test access port, boundary-scan register; the names of added nets and cells are own.
use Rattle.std.specs.Prelude.{ℕ, ◌-◌, not, nat_eq, List, [], ◌∷◌, map, take, filter, length, Option, Some, None, option_and_then, unwrap_or, if◌then◌else◌, Bool, false}
use Rattle.std.specs.List.{starts_with}
use Rattle.std.specs.Option.{option_map, option_map_or}
use Rattle.std.specs.Str.{bytes_eq}
use Rattle.verilog_tree.specs.declared.tree.Bit.{Bit}
use Rattle.verilog_tree.specs.declared.tree.Item.{Item}
use Rattle.verilog_tree.specs.declared.tree.Item.TheVariants as item
use Rattle.verilog_tree.specs.declared.tree.Link.{Link}
use Rattle.verilog_tree.specs.declared.tree.Module.{Module}
use Rattle.verilog_tree.specs.declared.tree.Operand.{Operand}
use Rattle.verilog_tree.specs.declared.tree.Operand.TheVariants as operand
use Rattle.verilog_tree.specs.declared.tree.Wire.{Wire}
use Rattle.strip_model.specs.declared.Side.{Side}
use Rattle.strip_model.specs.Sides.{scalar_with}

-- What stands behind an operand.

abbrev pub find_side : List Side → List ℕ → Option Operand
find_side [] name = None
find_side (side ∷ sides) name = if bytes_eq name side.net then Some side.core else find_side sides name

-- what the core had in the place of a net between; any other operand is its own
abbrev pub behind : List Side → Operand → Operand
behind sides (operand.Const value) = operand.Const value
behind sides (operand.Bit bit) = unwrap_or (option_and_then (find_side sides) (scalar_with bit.index bit.net)) (operand.Bit bit)

-- own: twice, since what a cell before a driver takes may itself be a net between
abbrev pub core_operand : List Side → Operand → Operand
core_operand sides one = behind sides (behind sides one)

abbrev pub bit_or : Bit → Operand → Bit
bit_or bit (operand.Bit found) = found
bit_or bit (operand.Const value) = bit

abbrev pub core_bit : List Side → Bit → Bit
core_bit sides bit = bit_or bit (core_operand sides (operand.Bit bit))

-- The items.

abbrev pub core_link : List Side → Link → Link
core_link sides link = record link { operand = option_map (core_operand sides) link.operand }

abbrev pub core_item : List Side → Item → Item
core_item sides (item.Gate gate) = item.Gate (record gate { output = core_bit sides gate.output; inputs = map (core_operand sides) gate.inputs })
core_item sides (item.Instance instance) = item.Instance (record instance { links = map (core_link sides) instance.links })
core_item sides (item.Assign output input) = item.Assign (core_bit sides output) (core_operand sides input)

abbrev pub name_of : Item → Option (List ℕ)
name_of (item.Gate gate) = gate.name
name_of (item.Instance instance) = Some instance.name
name_of (item.Assign output input) = None

abbrev pub begins : List ℕ → List ℕ → Bool
begins prefix name = starts_with nat_eq name prefix

abbrev pub is_added : List ℕ → Item → Bool
is_added prefix one = option_map_or (begins prefix) (name_of one) false

-- those before the first whose name begins with the prefix
abbrev pub before_added : List ℕ → List Item → List Item
before_added prefix [] = []
before_added prefix (one ∷ items) = if is_added prefix one then [] else one ∷ before_added prefix items

-- The module.

abbrev pub is_own_wire : List ℕ → Wire → Bool
is_own_wire prefix wire = not (begins prefix wire.name)

-- without the five ports of the test access port, and without what has the prefix
abbrev pub core_module : List ℕ → List Side → Module → Module
core_module prefix sides tree = record {
  name = tree.name;
  ports = take (length tree.ports - 5) tree.ports;
  wires = filter (is_own_wire prefix) tree.wires;
  items = map (core_item sides) (before_added prefix tree.items);
}
