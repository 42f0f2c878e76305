-- Where the gates of data registers of a design's own stand beside a core with a device's test logic around it.
-- Own.
use Rattle.std.specs.Prelude.{◌≡◌, ℕ, ◌+◌, ◌<◌, List, length, All}
use Rattle.netlist_model.specs.declared.NetId.{NetId}
use Rattle.netlist_model.specs.Lists.{NetlistView}
use Rattle.netlist_model.specs.Settled.{IsSettled}
use Rattle.netlist_model.specs.Contained.{HasCells}
use Rattle.netlist_model.specs.Runs.{Moment}
use Rattle.bsdl_device.specs.declared.values.Device.{Device}
use Rattle.surrounded_core.specs.Places.{Places, controller_nets, selection_nets, bypass_bit}
use Rattle.status_fitting.specs.declared.fitted.FittedRegister.{FittedRegister}
use Rattle.status_gates.specs.Extended.{StatusRegister}
use Rattle.status_gates.specs.Placed.{IsCoreWire, IsFree}
use Rattle.status_gates.specs.Opcodes.{inverses_cells}
use Rattle.status_gates.specs.declared.parts.SharedNets.{SharedNets}
use Rattle.status_gates.specs.Registers.{shown_of, registers_cells}

-- own: its opcode is as long as the instruction register and names nothing in the base device, and it captures wires of
-- the core, one at least
pub record FitsBeside (N : NetlistView) (B : Device) (S : Places) (r : StatusRegister) : Type 0 where
  pub long : r.opcode.len ≡ S.codes.length
  pub free : IsFree B r
  pub some : 0 < length r.wires
  pub wires : All (λ (net : NetId). IsCoreWire N S net.0) r.wires

-- own: what all registers stand on, where the nets of the inverses begin here
abbrev pub shared_in : Places → ℕ → SharedNets
shared_in S inverses = record { tap = controller_nets S; tdi = S.tdi; opcode = (selection_nets S).opcode; inverses = record { 0 = inverses } }

-- own: where the registers' nets begin, and the numbers of their cells: behind the inverses
abbrev pub behind_inverses : Places → ℕ → ℕ
behind_inverses S first = first + S.codes.length

-- own: the net that has the bit of the register whose opcode is latched, else the bypass bit
abbrev pub last_shown : Places → ℕ → List FittedRegister → NetId
last_shown S first registers = shown_of (behind_inverses S first) (bypass_bit S) registers

-- own: M holds the inverses of the latched opcode and behind them the gates of the registers, on nets from `first` on,
-- and the net that goes to TDO in the place of the bypass bit has what the registers show
pub record HoldsRegisters (M : NetlistView) (S : Places) (shown : NetId) (first number : ℕ) (registers : List FittedRegister) : Type 0 where
  pub inverses : HasCells M (inverses_cells first number (selection_nets S).opcode.0 S.codes.length)
  pub gates : HasCells M (registers_cells (behind_inverses S first) (behind_inverses S number) (shared_in S first) (bypass_bit S) registers)
  pub shows : (m : Moment) → IsSettled M m.pins m.state m.value → m.value shown.0 ≡ m.value (last_shown S first registers).0
