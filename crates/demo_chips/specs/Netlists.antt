-- The demonstration netlist of a number: gates over a pool of bits, flip-flops that feed back, and outputs.
-- IEEE Std 1364-2001: gate-level modelling, data types (vectors); the netlist is own.
use Rattle.std.specs.Prelude.{ℕ, ◌+◌, ◌-◌, ◌*◌, ◌%◌, ◌==◌, nat_lt, List, [], ◌∷◌, ◌++◌, map, codes, Some, None, if◌then◌else◌}
use Rattle.std.specs.List.{range_with_len}
use Rattle.std.specs.Fmt.{decimal}
use Rattle.verilog_tree.specs.declared.tree.Dir.{Dir}
use Rattle.verilog_tree.specs.declared.tree.Dir.TheVariants as dir
use Rattle.verilog_tree.specs.declared.tree.Port.{Port}
use Rattle.verilog_tree.specs.declared.tree.Wire.{Wire}
use Rattle.verilog_tree.specs.declared.tree.GateKind.{GateKind}
use Rattle.verilog_tree.specs.declared.tree.GateKind.TheVariants as gate
use Rattle.verilog_tree.specs.declared.tree.Bit.{Bit}
use Rattle.verilog_tree.specs.declared.tree.Operand.TheVariants as operand
use Rattle.verilog_tree.specs.declared.tree.Link.{Link}
use Rattle.verilog_tree.specs.declared.tree.Item.{Item}
use Rattle.verilog_tree.specs.declared.tree.Item.TheVariants as item
use Rattle.verilog_tree.specs.declared.tree.Module.{Module}
use Rattle.demo_chips.specs.Draws.{draw}

-- Nets.

abbrev pub scalar : List ℕ → Bit
scalar name = record { net = name; index = None }

abbrev pub bit_of : List ℕ → ℕ → Bit
bit_of name index = record { net = name; index = Some index }

-- own: the pool holds the 16 bits of d, the 32 of f, and behind them those of g
abbrev pub pool_bit : ℕ → Bit
pool_bit place =
    if nat_lt place 16 then bit_of (codes "d") place
    else if nat_lt place 48 then bit_of (codes "f") (place - 16)
    else bit_of (codes "g") (place - 48)

-- the bit that is drawn from so many of the pool
abbrev pub drawn_bit : ℕ → ℕ → ℕ → Bit
drawn_bit number before size = pool_bit (draw number before % size)

abbrev pub gate_count : ℕ → ℕ
gate_count number = 100 + 10 * number

-- Gates: three draws each, the kind and two operands from the pool of the bits before.

abbrev pub gate_kind : ℕ → GateKind
gate_kind place =
    if place == 0 then gate.And
    else if place == 1 then gate.Or
    else if place == 2 then gate.Nand
    else if place == 3 then gate.Nor
    else if place == 4 then gate.Xor
    else gate.Xnor

abbrev pub gate_item : ℕ → ℕ → Item
gate_item number k = item.Gate (record {
  kind = gate_kind (draw number (3 * k) % 6);
  name = None;
  output = bit_of (codes "g") k;
  inputs = operand.Bit (drawn_bit number (3 * k + 1) (48 + k)) ∷ operand.Bit (drawn_bit number (3 * k + 2) (48 + k)) ∷ [];
})

-- Flip-flops: one draw each, of the data, from the whole pool.

abbrev pub link_to : List ℕ → Bit → Link
link_to port bit = record { port = port; operand = Some (operand.Bit bit) }

abbrev pub flop_links : ℕ → Bit → List Link
flop_links i datum = link_to (codes "D") datum ∷ link_to (codes "CK") (scalar (codes "clk"))
    ∷ link_to (codes "RN") (scalar (codes "rn")) ∷ link_to (codes "Q") (bit_of (codes "f") i) ∷ []

abbrev pub flop_item : ℕ → ℕ → Item
flop_item number i = item.Instance (record {
  cell = codes "DFFR";
  name = codes "f_" ++ decimal i;
  links = flop_links i (drawn_bit number (3 * gate_count number + i) (48 + gate_count number));
})

-- Outputs: one draw each, from the whole pool.

abbrev pub output_item : ℕ → ℕ → Item
output_item number j = item.Gate (record {
  kind = gate.Buf;
  name = None;
  output = bit_of (codes "q") j;
  inputs = operand.Bit (drawn_bit number (3 * gate_count number + 32 + j) (48 + gate_count number)) ∷ [];
})

-- The module.

abbrev pub from_zero : ℕ → List ℕ
from_zero count = range_with_len 0 count

abbrev pub port_of : List ℕ → Dir → Port
port_of name side = record { name = name; dir = side; range = None }

abbrev pub vector_of : List ℕ → Dir → ℕ → Port
vector_of name side left = record { name = name; dir = side; range = Some (record { left = left; right = 0 }) }

abbrev pub wires_of : List ℕ → ℕ → Wire
wires_of name left = record { name = name; range = Some (record { left = left; right = 0 }) }

abbrev pub demo_ports : List Port
demo_ports = port_of (codes "clk") dir.Input ∷ port_of (codes "rn") dir.Input ∷ vector_of (codes "d") dir.Input 15 ∷ vector_of (codes "q") dir.Output 15 ∷ []

abbrev pub demo_wires : ℕ → List Wire
demo_wires number = wires_of (codes "f") 31 ∷ wires_of (codes "g") (gate_count number - 1) ∷ []

abbrev pub demo_items : ℕ → List Item
demo_items number = map (gate_item number) (from_zero (gate_count number)) ++ (map (flop_item number) (from_zero 32) ++ map (output_item number) (from_zero 16))

abbrev pub demo_module : ℕ → Module
demo_module number = record { name = codes "demo"; ports = demo_ports; wires = demo_wires number; items = demo_items number }
