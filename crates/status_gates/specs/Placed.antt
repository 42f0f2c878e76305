-- Where the gates of such registers stand in a netlist.
-- Own.
use Rattle.std.specs.Prelude.{◌≡◌, ℕ, ◌<◌, List, [], ◌∷◌, length, Some, None, All, true, false}
use Rattle.signal_values.specs.declared.Sig.{Sig}
use Rattle.signal_values.specs.Values.{sig_mux}
use Rattle.cell_library.specs.Gates.{is_three_state}
use Rattle.cell_library.specs.declared.codes.Instr.TheVariants as instr
use Rattle.netlist_model.specs.declared.NetId.{NetId}
use Rattle.netlist_model.specs.Lists.{CellView, NetlistView, direction}
use Rattle.netlist_model.specs.Settled.{driver_of}
use Rattle.netlist_model.specs.Contained.{HasCells}
use Rattle.netlist_model.specs.Runs.{Moment}
use Rattle.bsdl_device.specs.declared.values.Device.{Device}
use Rattle.test_logic.specs.Instructions.{pattern, is_pattern, instruction_of}
use Rattle.surrounded_core.specs.Places.{Places, controller_nets, bypass_bit}
use Rattle.register_gates.specs.Registers.{data_cells, data_last, data_values}
use Rattle.status_gates.specs.Wires.{net_feeds}
use Rattle.status_gates.specs.Extended.{StatusRegister, HeldRegister}

-- own: a register, its first net, the number of its first cell, and the net that tells whether its opcode is latched
pub record Placed : Type 0 where
  pub register : StatusRegister
  pub first : ℕ
  pub number : ℕ
  pub on : NetId

-- own: a wire of the core that a gate or a flip-flop drives, which keeps its net
pub record IsCoreWire (N : NetlistView) (S : Places) (net : ℕ) : Type 0 where
  pub inside : direction N.ports net ≡ None
  pub cell : CellView
  pub driver : driver_of N.cells net ≡ Some cell
  pub plain : is_three_state cell.kind ≡ false
  pub stays : S.to net ≡ net

-- own: its cells are there, and it captures wires of the core
pub record IsPlaced (M N : NetlistView) (S : Places) (p : Placed) : Type 0 where
  pub some : 0 < length p.register.wires
  pub wires : All (λ (net : NetId). IsCoreWire N S net.0) p.register.wires
  pub cells : HasCells M (data_cells p.first p.number (controller_nets S) p.on S.tdi (net_feeds p.register.wires))

-- own: what its bits hold at a moment, whatever it is
abbrev pub contents : Moment → Placed → List Sig
contents m p = data_values m.value p.first (net_feeds p.register.wires)

abbrev pub held_at : Moment → Placed → HeldRegister
held_at m p = record { register = p.register; held = contents m p }

-- own: what is shown: the bit of the first register that is on, else the bypass bit
abbrev pub shown_by : Places → List Placed → Moment → Sig
shown_by S [] m = m.value (bypass_bit S).0
shown_by S (p ∷ ps) m = sig_mux (m.value p.on.0) (shown_by S ps m) (m.value (data_last p.first S.tdi (net_feeds p.register.wires)).0)

-- own: its opcode is none of the base device, so that while it is latched BYPASS is in effect
abbrev pub IsFree : Device → StatusRegister → Type 0
IsFree B r = (latched : List Sig) → is_pattern latched (pattern r.opcode) ≡ true → instruction_of B.opcodes latched ≡ instr.Bypass
