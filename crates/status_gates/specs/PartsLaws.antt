-- What the gates of all registers do.
-- IEEE Std 1149.1-2001: design-specific test data registers; the laws are own.
use Rattle.std.specs.Prelude.{◌≡◌, ℕ, ◌+◌, ◌<◌, List, [], ◌∷◌, All}
use Rattle.signal_values.specs.Values.{bit}
use Rattle.netlist_model.specs.declared.NetId.{NetId}
use Rattle.netlist_model.specs.Lists.{NetlistView}
use Rattle.netlist_model.specs.Settled.{IsSettled}
use Rattle.netlist_model.specs.Formed.{IsWellFormed}
use Rattle.netlist_model.specs.Contained.{HasCells}
use Rattle.netlist_model.specs.Runs.{Moment}
use Rattle.test_logic.specs.Instructions.{pattern, is_pattern}
use Rattle.instruction_gates.specs.Copies.{row_values}
use Rattle.instruction_gates.specs.Matches.{AreKnown}
use Rattle.register_gates.specs.Registers.{data_cells}
use Rattle.surrounded_core.specs.Places.{Places, bypass_bit}
use Rattle.status_gates.specs.Extended.{StatusRegister}
use Rattle.status_gates.specs.Placed.{Placed, shown_by}
use Rattle.status_fitting.specs.declared.fitted.FittedRegister.{FittedRegister}
use Rattle.status_gates.specs.Opcodes.{AreInverses}
use Rattle.status_gates.specs.Wires.{net_feeds}
use Rattle.status_gates.specs.declared.parts.SharedNets.{SharedNets}
use Rattle.status_gates.specs.Registers.{registers_size, on_at, shown_of, registers_cells}

-- own: a register as the test logic has it
abbrev pub status_of : FittedRegister → StatusRegister
status_of r = record { opcode = r.register.bits; wires = r.nets }

-- own: where its bits stand
abbrev pub placed_at : ℕ → ℕ → FittedRegister → Placed
placed_at first number r = record { register = status_of r; first = first + r.register.bits.len; number = number + r.register.bits.len; on = on_at first r }

abbrev pub placed_in : ℕ → ℕ → List FittedRegister → List Placed
placed_in first number [] = []
placed_in first number (r ∷ rs) = placed_at (first + registers_size rs) (number + registers_size rs) r ∷ placed_in first number rs

-- own: a register's opcode has a bit, and is on known nets, with inverses beside them
pub record HasOpcode (shared : SharedNets) (m : Moment) (r : FittedRegister) : Type 0 where
  pub some : 0 < r.register.bits.len
  pub known : AreKnown (row_values m.value shared.opcode.0 r.register.bits.len)
  pub inverses : AreInverses m.value shared.opcode.0 shared.inverses.0 r.register.bits.len

-- own: a register's bits are there, and its net tells whether the nets of the latched opcode have its pattern
pub record Stands (N : NetlistView) (shared : SharedNets) (m : Moment) (p : Placed) : Type 0 where
  pub cells : HasCells N (data_cells p.first p.number shared.tap p.on shared.tdi (net_feeds p.register.wires))
  pub on : m.value p.on.0 ≡ bit (is_pattern (row_values m.value shared.opcode.0 p.register.opcode.len) (pattern p.register.opcode))

-- own: so do all, and the last multiplexer has the bit of the first register that is selected, else the bypass bit
pub record AllStand (N : NetlistView) (S : Places) (shared : SharedNets) (m : Moment) (shown : NetId) (ps : List Placed) : Type 0 where
  pub each : All (Stands N shared m) ps
  pub shown_is : m.value shown.0 ≡ shown_by S ps m

abbrev pub RegistersTell : Type 0
RegistersTell = (first number : ℕ) (S : Places) (shared : SharedNets) (rs : List FittedRegister) (N : NetlistView) (m : Moment) → shared.tdi ≡ S.tdi → IsWellFormed N
    → HasCells N (registers_cells first number shared (bypass_bit S) rs) → IsSettled N m.pins m.state m.value → All (HasOpcode shared m) rs
    → AllStand N S shared m (shown_of first (bypass_bit S) rs) (placed_in first number rs)
