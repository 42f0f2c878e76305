-- What an event makes of the instruction register, from whatever machine it stands for.
-- IEEE Std 1149.1-2001: instruction register, TAP controller.
use Rattle.std.specs.Prelude.{◌≡◌, ℕ, Bool, true, false, List}
use Rattle.signal_values.specs.declared.Sig.{Sig}
use Rattle.netlist_model.specs.declared.NetId.{NetId}
use Rattle.netlist_model.specs.Lists.{NetlistView}
use Rattle.netlist_model.specs.Settled.{IsSettled}
use Rattle.netlist_model.specs.Formed.{IsWellFormed}
use Rattle.netlist_model.specs.Contained.{HasCells}
use Rattle.netlist_model.specs.Runs.{Moment, PinEvent, IsStart, IsStep}
use Rattle.test_logic.specs.declared.Codes.{Codes}
use Rattle.test_logic.specs.declared.TapNets.{TapNets}
use Rattle.test_logic.specs.declared.TapState.{TapState}
use Rattle.test_logic.specs.declared.TapState.TheVariants.{TestLogicReset, ShiftIr, Exit1Ir, PauseIr, Exit2Ir, UpdateIr}
use Rattle.test_logic.specs.declared.Levels.{Levels}
use Rattle.test_logic.specs.Instructions.{reset_opcode}
use Rattle.test_logic.specs.Machine.{TestLogic, Machine, AreCodes, reset, machine_step}
use Rattle.register_gates.specs.tap_gates.Laws.{ShowsState}
use Rattle.register_gates.specs.BitsLaws.{Carries}
use Rattle.instruction_gates.specs.Matches.{AreKnown}
use Rattle.instruction_gates.specs.Register.{instruction_cells, held_shift, held_opcode}
use Rattle.instruction_gates.specs.RegisterLaws.{FitTheRegister, IsFed, Follows}

-- own: its two stages hold what the test logic holds
pub record HoldsStages (first : ℕ) (codes : Codes) (machine : Machine) (m : Moment) : Type 0 where
  pub shift : held_shift m.value first codes ≡ machine.shift
  pub latched : held_opcode m.value first codes ≡ machine.latched

-- in these states the shift stage has captured since Test-Logic-Reset, and it may be latched before it captures again
abbrev pub is_captured : TapState → Bool
is_captured ShiftIr = true
is_captured Exit1Ir = true
is_captured PauseIr = true
is_captured Exit2Ir = true
is_captured UpdateIr = true
is_captured _ = false

-- own: each bit that is latched is 0 or 1, and so is each that may be latched before the shift stage captures again
pub record IsLegible (machine : Machine) : Type 0 where
  pub latched : AreKnown machine.latched
  pub shift : is_captured machine.state ≡ true → AreKnown machine.shift

-- own: the register, wherever its nets begin at `first` and its cells were numbered from `number` on
pub record InstructionLaws (first number : ℕ) (tap : TapNets) (tdi : NetId) (codes : Codes) (N : NetlistView) (L : TestLogic) : Type 0 where
  -- where TRST is 0 at a start, its stages are those of reset
  pub start : (given : ℕ → Sig) (levels : Levels) (m : Moment) → IsStart N given m → IsFed tap tdi levels TestLogicReset m → levels.trst ≡ false → HoldsStages first codes (reset L) m
  -- an event makes of them what the test logic does
  pub step : (event : PinEvent) (before after : Levels) (caught : List Sig) (machine : Machine) (m m' : Moment) → IsSettled N m.pins m.state m.value → IsStep N event m m'
      → IsFed tap tdi before machine.state m → Carries tap.tck tap.trst after m' → HoldsStages first codes machine m
      → HoldsStages first codes (machine_step L before after caught machine) m'
  -- and where the latched bits are known, its nets tell what the instruction in effect selects
  pub tells : (machine : Machine) (m : Moment) → IsSettled N m.pins m.state m.value → ShowsState tap machine.state m → AreKnown machine.latched
      → HoldsStages first codes machine m → Follows first tap tdi codes L machine m

abbrev pub InstructionSteps : Type 0
InstructionSteps = (first number : ℕ) (tap : TapNets) (tdi : NetId) (codes : Codes) (N : NetlistView) (L : TestLogic) → IsWellFormed N
    → HasCells N (instruction_cells first number tap tdi codes) → AreCodes codes L → FitTheRegister codes → InstructionLaws first number tap tdi codes N L

-- own: with reset's opcode in Test-Logic-Reset the register is legible, and stays so
pub record StaysLegible (codes : Codes) (L : TestLogic) : Type 0 where
  pub reset : (machine : Machine) → machine.state ≡ TestLogicReset → machine.latched ≡ reset_opcode L.opcodes → IsLegible machine
  pub step : (before after : Levels) (caught : List Sig) (machine : Machine) → IsLegible machine → IsLegible (machine_step L before after caught machine)

abbrev pub InstructionsStayLegible : Type 0
InstructionsStayLegible = (codes : Codes) (L : TestLogic) → AreCodes codes L → StaysLegible codes L
