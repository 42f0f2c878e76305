-- A core with a device's test logic around it finds home, whatever the test logic holds.
-- IEEE Std 1149.1-2001: TAP controller; the rest is own.
use Rattle.std.specs.Prelude.{◌≡◌, ◌≤◌, ℕ, suc, ◌+◌, List, length, drop, Some, None}
use Rattle.netlist_model.specs.declared.NetId.{NetId}
use Rattle.netlist_model.specs.Lists.{CellView, NetlistView, cell_at}
use Rattle.netlist_model.specs.Runs.{Moment}
use Rattle.bsdl_device.specs.declared.values.Device.{Device}
use Rattle.test_logic.specs.declared.TapState.{TapState}
use Rattle.test_logic.specs.Machine.{Machine, test_logic_of}
use Rattle.tap_gates.specs.Controller.{state_net}
use Rattle.wrapped_chip.specs.ChipRuns.{ChipMoment, ChipEvent}
use Rattle.wrapped_chip.specs.Home.{IsChipRunFrom, IsOutside, IsRunFromBits, FallsHome, IsHome, FindsHome}
use Rattle.surrounded_core.specs.Places.{Places}
use Rattle.surrounded_core.specs.Surrounds.{SurroundsBy, Surrounds}
use Rattle.surrounded_core.specs.Open.{FollowsChip}

-- own: no cell on a net of the controller's states is one of the core's
abbrev pub IsControllerAdded : NetlistView → NetlistView → Places → Type 0
IsControllerAdded M N S = (s : TapState) (i : ℕ) (cell : CellView) → cell_at M i ≡ Some cell → cell.output ≡ Some (state_net S.controller s) → cell_at N i ≡ None

abbrev pub SurroundedFindsHome : Type 0
SurroundedFindsHome = (M N : NetlistView) (B : Device) (S : Places) → Surrounds M N B S → IsControllerAdded M N S → FindsHome M B N

-- own: from this moment on M follows the chip in a run from such a machine, by the events that are left and with what
-- is then outside, and TDO moves by what is shown in the place of the bypass bit
pub record FollowsFromHome (M N : NetlistView) (B : Device) (S : Places) (shown : NetId) (events : List ChipEvent) (outside : ℕ → ChipMoment) (moment : ℕ → Moment) (home : ℕ) : Type 0 where
  pub machine : Machine
  pub is_home : IsHome (test_logic_of B) machine
  pub chip : ℕ → ChipMoment
  pub run : IsChipRunFrom machine B N (moment home).state (drop home events) chip
  pub levels : (t : ℕ) → (chip t).levels ≡ (outside (home + t)).levels
  pub pins : (t net : ℕ) → (chip t).pins net ≡ (outside (home + t)).pins net
  pub follows : FollowsChip M B N S shown (drop home events) chip (λ t. moment (home + t))

-- own: so it does at the falling edge after five rising edges with TMS at 1
abbrev pub SurroundedFollowsFromHome : Type 0
SurroundedFollowsFromHome = (M N : NetlistView) (B : Device) (S : Places) (shown : NetId) → SurroundsBy M N B S shown → IsControllerAdded M N S
    → (events : List ChipEvent) (outside : ℕ → ChipMoment) (moment : ℕ → Moment) → IsOutside N events outside → IsRunFromBits M N events outside moment
    → (t : ℕ) → suc t ≤ length events → FallsHome (λ u. (outside u).levels) t → FollowsFromHome M N B S shown events outside moment (suc t)
