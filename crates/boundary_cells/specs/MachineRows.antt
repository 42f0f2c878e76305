-- The test logic's boundary register place by place: each place steps as the bits of a cell do.
-- IEEE Std 1149.1-2001: boundary-scan register, TAP controller.
use Rattle.std.specs.Prelude.{◌≡◌, ℕ, suc, ◌<◌, ◌&&◌, Bool, true, false, List, length, slice_get, unwrap_or, Some, if◌then◌else◌}
use Rattle.signal_values.specs.declared.Sig.{Sig}
use Rattle.signal_values.specs.declared.Sig.TheVariants.{Zero, Unknown}
use Rattle.signal_values.specs.Values.{bit}
use Rattle.cell_library.specs.declared.codes.BoundaryKind.{BoundaryKind}
use Rattle.bsdl_device.specs.declared.entries.Register.TheVariants.{Boundary}
use Rattle.test_logic.specs.declared.Levels.{Levels}
use Rattle.test_logic.specs.declared.Action.{Action}
use Rattle.test_logic.specs.declared.Action.TheVariants.{Keeps}
use Rattle.test_logic.specs.declared.TapState.{TapState}
use Rattle.test_logic.specs.declared.TapState.TheVariants.{UpdateDr}
use Rattle.test_logic.specs.Controller.{dr_action, act}
use Rattle.test_logic.specs.Registers.{shifted, update_bit}
use Rattle.test_logic.specs.Machine.{TestLogic, Machine, selects, reset, machine_step}
use Rattle.register_gates.specs.BitsLaws.{bit_after}

-- own: the bit in a place, unknown past the end
abbrev pub bit_at : List Sig → ℕ → Sig
bit_at bits place = unwrap_or (slice_get bits place) Unknown

-- what the boundary register does on the next rising edge
abbrev pub boundary_action : TestLogic → Machine → Action
boundary_action L m = if selects L m Boundary then dr_action m.state else Keeps

abbrev pub is_update : TapState → Bool
is_update UpdateDr = true
is_update _ = false

-- whether it updates on the next falling edge
abbrev pub boundary_updates : TestLogic → Machine → Bool
boundary_updates L m = selects L m Boundary && is_update m.state

-- own: what a step of the test logic makes of one place
pub record RowSteps (L : TestLogic) (before after : Levels) (captured : List Sig) (m : Machine) (cell : BoundaryKind) (place : ℕ) : Type 0 where
  pub shift : bit_at (machine_step L before after captured m).boundary place ≡ bit_after before after Zero
      (act (boundary_action L m) (bit_at captured place) (bit_at (shifted (bit before.tdi) m.boundary) place) (bit_at m.boundary place))
      (bit_at m.boundary place) (bit_at m.boundary place)
  pub update : bit_at (machine_step L before after captured m).update place ≡ bit_after before after Zero (bit_at m.update place)
      (if boundary_updates L m then update_bit cell (bit_at m.boundary place) else bit_at m.update place) (bit_at m.update place)

-- own: and of its reset
pub record RowResets (L : TestLogic) (place : ℕ) : Type 0 where
  pub shift : bit_at (reset L).boundary place ≡ Zero
  pub update : bit_at (reset L).update place ≡ Zero

-- own: what is shifted into a place: what is in the next one, and TDI into the last
pub record RowShifts (tdi : Sig) (bits : List Sig) (place : ℕ) : Type 0 where
  pub inner : suc place < length bits → bit_at (shifted tdi bits) place ≡ bit_at bits (suc place)
  pub last : suc place ≡ length bits → bit_at (shifted tdi bits) place ≡ tdi

-- own: so it is in every place of the register
pub record RowsStep : Type 0 where
  pub reset_to : (L : TestLogic) (cell : BoundaryKind) (place : ℕ) → slice_get L.kinds place ≡ Some cell → RowResets L place
  pub steps : (L : TestLogic) (before after : Levels) (captured : List Sig) (m : Machine) (cell : BoundaryKind) (place : ℕ) → slice_get L.kinds place ≡ Some cell
      → place < length m.boundary → RowSteps L before after captured m cell place
  pub shifts : (tdi : Sig) (bits : List Sig) (place : ℕ) → RowShifts tdi bits place
