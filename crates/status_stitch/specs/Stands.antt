-- Which data registers may stand beside a device's own, and a netlist that has them with the test logic built in.
-- IEEE Std 1149.1-2001: test data registers (design-specific), instruction register; the records are own.
use Rattle.std.specs.Prelude.{◌≡◌, ℕ, ◌+◌, ◌<◌, ◌^◌, false, List, length, All, None}
use Rattle.std.specs.List.{list_any}
use Rattle.cell_library.specs.declared.codes.Opcode.{Opcode}
use Rattle.netlist_model.specs.declared.NetId.{NetId}
use Rattle.netlist_model.specs.declared.Feed.TheVariants.{Net}
use Rattle.netlist_model.specs.Lists.{NetlistView, direction}
use Rattle.netlist_model.specs.Formed.{IsDriven}
use Rattle.netlist_model.specs.Contained.{HasCells}
use Rattle.netlist_link.specs.Linked.{LinkedView}
use Rattle.bsdl_device.specs.Instructions.{same_bits}
use Rattle.bsdl_device.specs.declared.values.Device.{Device}
use Rattle.wrapped_chip.specs.Legal.{HasControls}
use Rattle.plan_texts.specs.declared.plan.Plan.{Plan}
use Rattle.plan_fitting.specs.Pins.{PinSeen}
use Rattle.plan_fitting.specs.Devices.{fitted_of}
use Rattle.stitched_netlist.specs.declared.model.TapNames.{TapNames}
use Rattle.status_fitting.specs.declared.fitted.FittedRegister.{FittedRegister}
use Rattle.status_gates.specs.Opcodes.{inverses_cells}
use Rattle.status_gates.specs.declared.parts.SharedNets.{SharedNets}
use Rattle.status_gates.specs.Registers.{shown_of, registers_cells}
use Rattle.open_stitch.specs.declared.Parts.{Parts}
use Rattle.open_stitch.specs.Open.{stitched_open, parts_at}
use Rattle.open_stitch.specs.Runs.{Extends}

-- The registers.

-- own: a wire that some cell drives
abbrev pub IsDrivenWire : NetlistView → ℕ → Type 0
IsDrivenWire N net = (direction N.ports net ≡ None) × IsDriven N net

-- own: its opcode is as long as the device's instruction register and none of the device's opcodes, and it captures
-- driven wires of the netlist, one at least
pub record IsOwn (N : NetlistView) (B : Device) (r : FittedRegister) : Type 0 where
  pub small : r.register.bits.value < 2 ^ r.register.bits.len
  pub long : r.register.bits.len ≡ B.length
  pub free : list_any (λ (o : Opcode). same_bits r.register.bits o.bits) B.opcodes ≡ false
  pub some : 0 < length r.nets
  pub wires : All (λ (net : NetId). IsDrivenWire N net.0) r.nets

-- Their gates.

-- own: what all of them stand on, where the nets of the inverses begin here
abbrev pub shared_of : Parts → ℕ → SharedNets
shared_of parts inverses = record { tap = parts.tap; tdi = parts.tdi; opcode = parts.instr.opcode; inverses = record { 0 = inverses } }

-- own: the net that has the bit of the register whose opcode is latched, else the bypass bit
abbrev pub status_shown : Parts → ℕ → ℕ → List FittedRegister → NetId
status_shown parts bits first registers = shown_of (first + bits) parts.bypass registers

-- own: M holds the inverses of a latched opcode of so many bits, on nets from `first` on, and behind them the registers
pub record HoldsStatus (M : NetlistView) (parts : Parts) (bits first number : ℕ) (registers : List FittedRegister) : Type 0 where
  pub inverses : HasCells M (inverses_cells first number parts.instr.opcode.0 bits)
  pub gates : HasCells M (registers_cells (first + bits) (number + bits) (shared_of parts first) parts.bypass registers)

-- The whole.

abbrev pub parts_of : LinkedView → Plan → List PinSeen → Parts
parts_of L p seen = parts_at L.arena.lists (fitted_of L p seen)

-- M is well formed and has the netlist with the test logic of the plan that fits L built in, and the registers, what
-- they show going to TDO through the buffer; whatever else it has, its control ports are L's, TCK and TRST
pub record HasStatus (L : LinkedView) (p : Plan) (seen : List PinSeen) (names : TapNames) (M : NetlistView) (registers : List FittedRegister) : Type 0 where
  pub first : ℕ
  pub number : ℕ
  pub holds : HoldsStatus M (parts_of L p seen) p.length first number registers
  pub extends : Extends (stitched_open L.arena.lists names (fitted_of L p seen)) M (parts_of L p seen).through.0 (Net (status_shown (parts_of L p seen) p.length first registers))
  pub controls : HasControls M L.arena.lists
