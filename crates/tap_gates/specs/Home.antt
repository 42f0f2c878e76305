-- With TMS at 1 the controller comes to Test-Logic-Reset from whatever its flip-flops hold.
-- IEEE Std 1149.1-2001: TAP controller (five rising edges of TCK with TMS at 1); what sixteen flip-flops
-- may hold is own.
use Rattle.std.specs.Prelude.{◌≡◌, ℕ, suc, ◌≤◌, true, false, List, length, slice_get, Some}
use Rattle.signal_values.specs.declared.Sig.{Sig}
use Rattle.signal_values.specs.declared.Sig.TheVariants.{Zero}
use Rattle.cell_library.specs.declared.FlopKind.{FlopKind}
use Rattle.cell_library.specs.Gates.{flop_of}
use Rattle.cell_library.specs.Laws.{IsKnown}
use Rattle.netlist_model.specs.declared.NetId.{NetId}
use Rattle.netlist_model.specs.Lists.{CellView, NetlistView, cell_at}
use Rattle.netlist_model.specs.Settled.{IsSettled}
use Rattle.netlist_model.specs.Formed.{IsWellFormed}
use Rattle.netlist_model.specs.Contained.{HasCells}
use Rattle.netlist_model.specs.Runs.{Moment, PinEvent, IsStart, IsStep}
use Rattle.test_logic.specs.declared.TapState.{TapState}
use Rattle.test_logic.specs.declared.TapState.TheVariants.{TestLogicReset}
use Rattle.test_logic.specs.declared.Levels.{Levels}
use Rattle.test_logic.specs.Rises.{is_rise, rises, RisesWithOnes}
use Rattle.tap_gates.specs.Controller.{tap_cells, state_net}
use Rattle.tap_gates.specs.Laws.{Carries, HoldsState}

-- own: moment 0 is settled, whatever the flip-flops hold, and moment t + 1 follows by event t
pub record IsCourse (N : NetlistView) (events : List PinEvent) (moment : ℕ → Moment) : Type 0 where
  pub settled : IsSettled N (moment 0).pins (moment 0).state (moment 0).value
  pub steps : (t : ℕ) (event : PinEvent) → slice_get events t ≡ Some event → IsStep N event (moment t) (moment (suc t))

-- own: each flip-flop of the controller holds 0 or 1, and so do several of them, or none
pub record HoldsBits (first : ℕ) (m : Moment) : Type 0 where
  pub each : (s : TapState) → IsKnown (m.value (state_net first s).0)

-- own: no flip-flop of the controller holds 1
pub record HoldsNone (first : ℕ) (m : Moment) : Type 0 where
  pub each : (s : TapState) → m.value (state_net first s).0 ≡ Zero

-- own: each flip-flop of the controller is given 0 or 1
abbrev pub AreGivenBits : NetlistView → ℕ → (ℕ → Sig) → Type 0
AreGivenBits N first given = (s : TapState) (i : ℕ) (cell : CellView) (kind : FlopKind) → cell_at N i ≡ Some cell → flop_of N.library cell.kind ≡ Some kind
    → cell.output ≡ Some (state_net first s) → IsKnown (given i)

-- own: what the cells do, where the controller's nets begin at `first` and its cells were numbered from `number` on
pub record HomeLaws (first number : ℕ) (tck tms trst : NetId) : Type 0 where
  -- where each flip-flop is given 0 or 1 at a start, each holds 0 or 1
  pub starts : (N : NetlistView) (given : ℕ → Sig) (levels : Levels) (m : Moment) → IsWellFormed N → HasCells N (tap_cells first number tck tms trst) → IsStart N given m
      → Carries tck tms trst levels m → AreGivenBits N first given → HoldsBits first m
  -- from any bits, at each moment after five rising edges of TCK or more, each with TMS at 1, it is in Test-Logic-Reset
  pub home : (N : NetlistView) (events : List PinEvent) (moment : ℕ → Moment) (levels : ℕ → Levels) → IsWellFormed N → HasCells N (tap_cells first number tck tms trst)
      → IsCourse N events moment → HoldsBits first (moment 0) → ((t : ℕ) → t ≤ length events → Carries tck tms trst (levels t) (moment t))
      → (t : ℕ) → t ≤ length events → RisesWithOnes levels t → 5 ≤ rises levels t → HoldsState first TestLogicReset (moment t)
  -- where no flip-flop holds 1, a rising edge of TCK leads to Test-Logic-Reset if TMS is 1
  pub leaves_none : (N : NetlistView) (event : PinEvent) (before after : Levels) (m m' : Moment) → IsWellFormed N → HasCells N (tap_cells first number tck tms trst)
      → IsSettled N m.pins m.state m.value → IsStep N event m m' → Carries tck tms trst before m → Carries tck tms trst after m'
      → is_rise before after ≡ true → after.trst ≡ true → HoldsNone first m → before.tms ≡ true → HoldsState first TestLogicReset m'
  -- and else nowhere
  pub stays_none : (N : NetlistView) (event : PinEvent) (before after : Levels) (m m' : Moment) → IsWellFormed N → HasCells N (tap_cells first number tck tms trst)
      → IsSettled N m.pins m.state m.value → IsStep N event m m' → Carries tck tms trst before m → Carries tck tms trst after m'
      → is_rise before after ≡ true → after.trst ≡ true → HoldsNone first m → before.tms ≡ false → HoldsNone first m'

-- own: wherever the controller was added
abbrev pub TapFindsHome : Type 0
TapFindsHome = (first number : ℕ) (tck tms trst : NetId) → HomeLaws first number tck tms trst
