-- What the instruction register does, in every well-formed netlist that contains its cells.
-- IEEE Std 1149.1-2001: instruction register, instructions.
use Rattle.std.specs.Prelude.{◌≡◌, ℕ, ◌≤◌, List, length, Some}
use Rattle.signal_values.specs.declared.Sig.{Sig}
use Rattle.signal_values.specs.Values.{bit}
use Rattle.cell_library.specs.declared.codes.Bits.{Bits}
use Rattle.cell_library.specs.declared.codes.Instr.{Instr}
use Rattle.netlist_model.specs.declared.NetId.{NetId}
use Rattle.netlist_model.specs.Lists.{NetlistView}
use Rattle.netlist_model.specs.Formed.{IsWellFormed}
use Rattle.netlist_model.specs.Contained.{HasCells}
use Rattle.netlist_model.specs.Runs.{Moment, PinEvent, IsRun}
use Rattle.test_logic.specs.declared.Codes.{Codes}
use Rattle.test_logic.specs.declared.TapNets.{TapNets}
use Rattle.test_logic.specs.declared.TapState.{TapState}
use Rattle.test_logic.specs.declared.Levels.{Levels}
use Rattle.bsdl_device.specs.IsDevice.{IsInstructionRegister}
use Rattle.test_logic.specs.Instructions.{pattern, opcode_of, reset_opcode}
use Rattle.test_logic.specs.Registers.{first_bit}
use Rattle.test_logic.specs.Machine.{TestLogic, Machine, AreCodes, IsHistory, in_effect}
use Rattle.register_gates.specs.tap_gates.Laws.{ShowsState}
use Rattle.register_gates.specs.BitsLaws.{Carries}
use Rattle.instruction_gates.specs.Copies.{row_values}
use Rattle.instruction_gates.specs.Selections.{AreApart, Selected}
use Rattle.instruction_gates.specs.Register.{instruction_cells, instruction_nets, held_shift, held_opcode}

-- the register has a bit at least, each pattern is as long as it is, and no two instructions have one opcode but
-- SAMPLE and PRELOAD
pub record FitTheRegister (codes : Codes) : Type 0 where
  pub some : 1 ≤ codes.length
  pub capture : codes.capture.len ≡ codes.length
  pub reset : codes.reset.len ≡ codes.length
  pub each : (i : Instr) (opcode : Bits) → opcode_of codes.opcodes i ≡ Some opcode → opcode.len ≡ codes.length
  pub apart : AreApart codes.opcodes

-- so do those of each device that some BSDL text describes
abbrev pub RegistersFit : Type 0
RegistersFit = (codes : Codes) → IsInstructionRegister codes.length codes.opcodes codes.capture → reset_opcode codes.opcodes ≡ pattern codes.reset → FitTheRegister codes

-- own: the nets that are handed in carry the levels and the controller's state
pub record IsFed (tap : TapNets) (tdi : NetId) (levels : Levels) (w : TapState) (m : Moment) : Type 0 where
  pub carries : Carries tap.tck tap.trst levels m
  pub shows : ShowsState tap w m
  pub data_in : m.value tdi.0 ≡ bit levels.tdi

-- own: its two stages hold what the test logic holds, and its nets carry the latched opcode and tell what the
-- instruction in effect selects
pub record Follows (first : ℕ) (tap : TapNets) (tdi : NetId) (codes : Codes) (L : TestLogic) (machine : Machine) (m : Moment) : Type 0 where
  pub shift : held_shift m.value first codes ≡ machine.shift
  pub latched : held_opcode m.value first codes ≡ machine.latched
  pub opcode : row_values m.value (instruction_nets first tap tdi codes).opcode.0 codes.length ≡ machine.latched
  pub last : m.value (instruction_nets first tap tdi codes).last.0 ≡ first_bit machine.shift
  pub selected : Selected (instruction_nets first tap tdi codes) (in_effect L machine) machine.state m

-- own: at every moment of a run the instruction register is that of the test logic
abbrev pub InstructionFollows : Type 0
InstructionFollows = (first number : ℕ) (tap : TapNets) (tdi : NetId) (codes : Codes) (N : NetlistView) (given : ℕ → Sig) (events : List PinEvent) (moment : ℕ → Moment)
    → IsWellFormed N → HasCells N (instruction_cells first number tap tdi codes) → IsRun N given events moment
    → (L : TestLogic) (levels : ℕ → Levels) (caught : ℕ → List Sig) (machine : ℕ → Machine) → IsHistory L levels caught (length events) machine
    → AreCodes codes L → FitTheRegister codes
    → ((t : ℕ) → t ≤ length events → IsFed tap tdi (levels t) (machine t).state (moment t))
    → (t : ℕ) → t ≤ length events → Follows first tap tdi codes L (machine t) (moment t)
