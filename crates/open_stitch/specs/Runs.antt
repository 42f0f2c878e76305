-- How every netlist behaves that has the cells of one with the test logic built in, but that the buffer before TDO may
-- read anything.
-- IEEE Std 1149.1-2001: test logic architecture, test data registers; the records are own.
use Rattle.std.specs.Prelude.{◌≡◌, ◌≢◌, ℕ, suc, ◌<◌, ◌≤◌, List, length, Some, None}
use Rattle.signal_values.specs.declared.Sig.{Sig}
use Rattle.signal_values.specs.declared.PinSig.{PinSig}
use Rattle.signal_values.specs.declared.PinSig.TheVariants.{HighZ}
use Rattle.signal_values.specs.Values.{bit}
use Rattle.netlist_model.specs.declared.Feed.{Feed}
use Rattle.netlist_model.specs.Lists.{CellView, NetlistView, cell_at, direction, Drives}
use Rattle.netlist_model.specs.Settled.{feed_value}
use Rattle.netlist_model.specs.Formed.{IsWellFormed}
use Rattle.netlist_model.specs.Runs.{Moment}
use Rattle.netlist_model.specs.Settle.{SameFlops}
use Rattle.netlist_arena.specs.Moves.{with_feed}
use Rattle.bsdl_device.specs.declared.values.Device.{Device}
use Rattle.test_logic.specs.Registers.{first_bit}
use Rattle.test_logic.specs.Machine.{in_effect, test_logic_of}
use Rattle.tap_gates.specs.Laws.{ShowsState}
use Rattle.register_gates.specs.BitsLaws.{Carries}
use Rattle.instruction_gates.specs.Copies.{row_values}
use Rattle.instruction_gates.specs.Selections.{Selected}
use Rattle.wrapped_chip.specs.Cells.{chip_reading}
use Rattle.wrapped_chip.specs.ChipRuns.{ChipEvent, ChipMoment, IsChipRun}
use Rattle.wrapped_chip.specs.Suits.{IsRead}
use Rattle.wrapped_chip.specs.Realises.{IsRunBeside, ReadsBit, ReadsTdo}
use Rattle.surrounded_core.specs.Open.{tdo_step}
use Rattle.open_stitch.specs.declared.Parts.{Parts}

-- M is well formed and has this netlist's library, its ports and its cells under their numbers, but that the cell
-- `through` has this operand; whatever further cells and nets M has
pub record Extends (O M : NetlistView) (through : ℕ) (operand : Feed) : Type 0 where
  pub formed : IsWellFormed M
  pub library : M.library ≡ O.library
  pub ports : M.ports ≡ O.ports
  pub cells : (number : ℕ) (cell : CellView) → number ≢ through → cell_at O number ≡ Some cell → cell_at M number ≡ Some cell
  -- further cells drive further nets
  pub own : (number : ℕ) (cell : CellView) (net : ℕ) → cell_at O number ≡ None → Drives M number cell net → length O.nets ≤ net
  pub buffer : (cell : CellView) → cell_at O through ≡ Some cell → cell_at M through ≡ Some (with_feed 0 operand cell)

-- at a moment M reads as the chip but for TDO, and the nets of its parts carry the test logic
pub record HoldsOpen (M : NetlistView) (B : Device) (N : NetlistView) (parts : Parts) (m : Moment) (w : ChipMoment) : Type 0 where
  pub bits : (net : ℕ) → IsRead N net → ReadsBit M N m net (chip_reading B N w.machine w.pins w.value net)
  pub kept : SameFlops N m.state w.state
  -- each wire of the core has its value in the chip
  pub wires : (net : ℕ) → net < length N.nets → direction N.ports net ≡ None → m.value net ≡ w.value net
  pub levels : Carries parts.tap.tck parts.tap.trst w.levels m
  pub states : ShowsState parts.tap w.machine.state m
  pub selected : Selected parts.instr (in_effect (test_logic_of B) w.machine) w.machine.state m
  pub last : m.value parts.instr.last.0 ≡ first_bit w.machine.shift
  pub opcode : row_values m.value parts.instr.opcode.0 (length w.machine.latched) ≡ w.machine.latched
  pub data_in : m.value parts.tdi.0 ≡ bit w.levels.tdi
  pub bypass : m.value parts.bypass.0 ≡ w.machine.bypass

-- so it is at every moment of a run beside the chip's; TDO is off at first, and moves as the test logic's with the
-- operand's value in the place of the bypass bit
pub record FollowsOpen (M : NetlistView) (B : Device) (N : NetlistView) (parts : Parts) (operand : Feed) (events : List ChipEvent) (chip : ℕ → ChipMoment) (moment : ℕ → Moment) : Type 0 where
  pub holds : (t : ℕ) → t ≤ length events → HoldsOpen M B N parts (moment t) (chip t)
  pub off : ReadsTdo M N (moment 0) HighZ
  pub tdo : (t : ℕ) (before : PinSig) → suc t ≤ length events → ReadsTdo M N (moment t) before
      → ReadsTdo M N (moment (suc t)) (tdo_step (test_logic_of B) (chip t).levels (chip (suc t)).levels (chip t).machine (feed_value (moment t).value operand) before)

-- so it is of every netlist that extends O
abbrev pub IsOpen : NetlistView → Device → NetlistView → Parts → Type 0
IsOpen O B N parts = (M : NetlistView) (operand : Feed) → Extends O M parts.through.0 operand
    → (given : ℕ → Sig) (events : List ChipEvent) (chip : ℕ → ChipMoment) (moment : ℕ → Moment) → IsChipRun B N given events chip
    → IsRunBeside M B N given events chip moment → FollowsOpen M B N parts operand events chip moment
