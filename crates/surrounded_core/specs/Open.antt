-- A core with a device's test logic around it, whose TDO takes any net's value for the bit of the bypass register.
-- IEEE Std 1149.1-2001: test access port, test data registers; the records are own.
use Rattle.std.specs.Prelude.{◌≡◌, ◌≤◌, ℕ, suc, List, length}
use Rattle.signal_values.specs.declared.Sig.{Sig}
use Rattle.signal_values.specs.declared.PinSig.{PinSig}
use Rattle.signal_values.specs.declared.PinSig.TheVariants.{HighZ}
use Rattle.signal_values.specs.Values.{bit}
use Rattle.netlist_model.specs.declared.NetId.{NetId}
use Rattle.netlist_model.specs.Lists.{NetlistView}
use Rattle.netlist_model.specs.Runs.{Moment, reading_at}
use Rattle.netlist_model.specs.Settle.{SameFlops}
use Rattle.bsdl_device.specs.Instructions.{selected_register}
use Rattle.bsdl_device.specs.declared.entries.Register.{Register}
use Rattle.bsdl_device.specs.declared.entries.Register.TheVariants as register
use Rattle.bsdl_device.specs.declared.values.Device.{Device}
use Rattle.test_logic.specs.declared.Levels.{Levels}
use Rattle.test_logic.specs.Registers.{first_bit, tdo_after}
use Rattle.test_logic.specs.Machine.{TestLogic, Machine, in_effect, test_logic_of}
use Rattle.tap_gates.specs.Laws.{ShowsState}
use Rattle.register_gates.specs.BitsLaws.{Carries, bit_after}
use Rattle.instruction_gates.specs.RegisterLaws.{Follows}
use Rattle.wrapped_chip.specs.Cells.{chip_reading}
use Rattle.wrapped_chip.specs.ChipRuns.{ChipEvent, ChipMoment, IsChipRun}
use Rattle.wrapped_chip.specs.Suits.{IsRead}
use Rattle.wrapped_chip.specs.Realises.{IsRunBeside, ReadsBit, IsTapNet}
use Rattle.surrounded_core.specs.Places.{Places, controller_nets, bypass_bit}
use Rattle.surrounded_core.specs.Surrounds.{SurroundsBy}
use Rattle.surrounded_core.specs.Laws.{core_value}

-- the bit nearest TDO of a test data register, with this one in the place of the bypass register's
abbrev pub shown_bit : Register → Sig → Machine → Sig
shown_bit register.Boundary shown m = first_bit m.boundary
shown_bit register.Bypass shown m = shown
shown_bit register.DeviceId shown m = first_bit m.ident

-- TDO after an event, by what the test logic holds and what is shown before it: a falling edge of TCK gives it a value
-- in Shift-DR and Shift-IR, and TRST at 0 turns it off
abbrev pub tdo_step : TestLogic → Levels → Levels → Machine → Sig → PinSig → PinSig
tdo_step L before after m shown tdo =
    bit_after before after HighZ tdo (tdo_after m.state (shown_bit (selected_register (in_effect L m)) shown m) (first_bit m.shift)) tdo

-- own: at a moment M reads as the chip but for TDO, its first flip-flops hold the core's, and its nets carry the core's
-- values and the test logic, whatever is shown in the place of the bypass bit
pub record HoldsAsChip (M : NetlistView) (B : Device) (N : NetlistView) (S : Places) (m : Moment) (w : ChipMoment) : Type 0 where
  pub bits : (net : ℕ) → IsRead N net → ReadsBit M N m net (chip_reading B N w.machine w.pins w.value net)
  pub kept : SameFlops N m.state w.state
  -- the core's own values, and the nets that the controller and the registers hand on
  pub core : (net : ℕ) → core_value N S m.value net ≡ w.value net
  pub levels : Carries S.tck S.trst w.levels m
  pub data_in : m.value S.tdi.0 ≡ bit w.levels.tdi
  pub shows : ShowsState (controller_nets S) w.machine.state m
  pub instruction : Follows S.instruction (controller_nets S) S.tdi S.codes (test_logic_of B) w.machine m
  pub bypass : m.value (bypass_bit S).0 ≡ w.machine.bypass

-- own: so it is at every moment of a run beside the chip's, and TDO moves by what is shown
pub record FollowsChip (M : NetlistView) (B : Device) (N : NetlistView) (S : Places) (shown : NetId) (events : List ChipEvent) (chip : ℕ → ChipMoment) (moment : ℕ → Moment) : Type 0 where
  pub holds : (t : ℕ) → t ≤ length events → HoldsAsChip M B N S (moment t) (chip t)
  pub tap : IsTapNet M N 3 S.tdo.0
  pub off : reading_at M (moment 0) S.tdo.0 ≡ HighZ
  pub tdo : (t : ℕ) → suc t ≤ length events
      → reading_at M (moment (suc t)) S.tdo.0
      ≡ tdo_step (test_logic_of B) (chip t).levels (chip (suc t)).levels (chip t).machine ((moment t).value shown.0) (reading_at M (moment t) S.tdo.0)

abbrev pub SurroundedFollows : Type 0
SurroundedFollows = (M N : NetlistView) (B : Device) (S : Places) (shown : NetId) → SurroundsBy M N B S shown → (given : ℕ → Sig) (events : List ChipEvent) (chip : ℕ → ChipMoment)
    (moment : ℕ → Moment) → IsChipRun B N given events chip → IsRunBeside M B N given events chip moment → FollowsChip M B N S shown events chip moment
