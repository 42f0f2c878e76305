-- The canonical text of a module: one declaration or item a line, each line ended by LF (own layout).
-- IEEE Std 1364-2001: lexical conventions (simple and escaped names), modules and ports, gate-level modelling.
use Rattle.std.specs.Prelude.{ℕ, List, [], ◌∷◌, ◌++◌, Option, Some, None, Bool, true, false, ◌&&◌, if◌then◌else◌, codes, is_none}
use Rattle.std.specs.List.{flat_map}
use Rattle.std.specs.Fmt.{decimal}
use Rattle.verilog_lexicon.specs.Bytes.{is_simple_name}
use Rattle.verilog_lexicon.specs.Keywords.{reserved_of, spelling_of}
use Rattle.verilog_tree.specs.declared.tree.Range.{Range}
use Rattle.verilog_tree.specs.declared.tree.Bit.{Bit}
use Rattle.verilog_tree.specs.declared.tree.Operand.{Operand}
use Rattle.verilog_tree.specs.declared.tree.Operand.TheVariants as operand
use Rattle.verilog_tree.specs.declared.tree.Link.{Link}
use Rattle.verilog_tree.specs.declared.tree.Port.{Port}
use Rattle.verilog_tree.specs.declared.tree.Wire.{Wire}
use Rattle.verilog_tree.specs.declared.tree.Gate.{Gate}
use Rattle.verilog_tree.specs.declared.tree.Instance.{Instance}
use Rattle.verilog_tree.specs.declared.tree.Item.{Item}
use Rattle.verilog_tree.specs.declared.tree.Item.TheVariants as item
use Rattle.verilog_tree.specs.declared.tree.Module.{Module}
use Rattle.verilog_tree.specs.WrittenWords.{key_of_dir, key_of_gate}

-- a name that is read as it is: a simple one that isn't reserved
abbrev pub is_plain : List ℕ → Bool
is_plain name = is_simple_name name && is_none (reserved_of name)

-- the name as it is, or else escaped: `\`, the name, one blank
abbrev pub name_text : List ℕ → List ℕ
name_text name = if is_plain name then name else codes "\\" ++ name ++ codes " "

-- `[left:right]`
abbrev pub range_text : Range → List ℕ
range_text range = codes "[" ++ decimal range.left ++ codes ":" ++ decimal range.right ++ codes "]"

-- the range and a blank, where there is a range
abbrev pub ranged_text : Option Range → List ℕ
ranged_text None = []
ranged_text (Some range) = range_text range ++ codes " "

-- `[index]`, where there is an index
abbrev pub index_text : Option ℕ → List ℕ
index_text None = []
index_text (Some index) = codes "[" ++ decimal index ++ codes "]"

-- `name` or `name[index]`
abbrev pub bit_text : Bit → List ℕ
bit_text bit = name_text bit.net ++ index_text bit.index

abbrev pub operand_text : Operand → List ℕ
operand_text (operand.Bit bit) = bit_text bit
operand_text (operand.Const false) = codes "1'b0"
operand_text (operand.Const true) = codes "1'b1"

-- the parts with these bytes between them
abbrev pub each_after : {A : Type 0} → List ℕ → (A → List ℕ) → List A → List ℕ
each_after between text xs = flat_map (λ x. between ++ text x) xs

-- `  input [left:right] name`, and so `output` and `inout`
abbrev pub port_text : Port → List ℕ
port_text port = codes "  " ++ spelling_of (key_of_dir port.dir) ++ codes " " ++ ranged_text port.range ++ name_text port.name

-- each port on a line of its own, with a comma after all but the last; without ports `();`
abbrev pub ports_text : List Port → List ℕ
ports_text [] = codes "();\n"
ports_text (port ∷ ports) = codes "(\n" ++ port_text port ++ each_after (codes ",\n") port_text ports ++ codes "\n);\n"

-- `  wire [left:right] name;`
abbrev pub wire_text : Wire → List ℕ
wire_text wire = codes "  wire " ++ ranged_text wire.range ++ name_text wire.name ++ codes ";\n"

-- the name and a blank, where the gate has a name
abbrev pub named_text : Option (List ℕ) → List ℕ
named_text None = []
named_text (Some name) = name_text name ++ codes " "

-- `  kind name (output, input, input);`
abbrev pub gate_text : Gate → List ℕ
gate_text gate = codes "  " ++ spelling_of (key_of_gate gate.kind) ++ codes " " ++ named_text gate.name ++ codes "(" ++ bit_text gate.output ++ each_after (codes ", ") operand_text gate.inputs ++ codes ");\n"

-- nothing, where no operand is connected
abbrev pub connected_text : Option Operand → List ℕ
connected_text None = []
connected_text (Some operand) = operand_text operand

-- `.port(operand)`, or `.port()`
abbrev pub link_text : Link → List ℕ
link_text link = codes "." ++ name_text link.port ++ codes "(" ++ connected_text link.operand ++ codes ")"

abbrev pub links_text : List Link → List ℕ
links_text [] = []
links_text (link ∷ links) = link_text link ++ each_after (codes ", ") link_text links

-- `  cell name (.port(operand), .port());`
abbrev pub instance_text : Instance → List ℕ
instance_text instance = codes "  " ++ name_text instance.cell ++ codes " " ++ name_text instance.name ++ codes " (" ++ links_text instance.links ++ codes ");\n"

-- `  assign output = input;`
abbrev pub assign_text : Bit → Operand → List ℕ
assign_text output input = codes "  assign " ++ bit_text output ++ codes " = " ++ operand_text input ++ codes ";\n"

abbrev pub item_text : Item → List ℕ
item_text (item.Gate gate) = gate_text gate
item_text (item.Instance instance) = instance_text instance
item_text (item.Assign output input) = assign_text output input

-- `module name (`, the ports, the wires, the items, `endmodule`
abbrev pub canonical : Module → List ℕ
canonical tree = codes "module " ++ name_text tree.name ++ codes " " ++ ports_text tree.ports ++ flat_map wire_text tree.wires ++ flat_map item_text tree.items ++ codes "endmodule\n"
