-- A row that the instruction register's nets steer.
use Rattle.std.proofs.Common.{◌≡◌, Bool, true, false, ◌&&◌, refl, ap, ◌∙◌, arith}
use Rattle.std.specs.Prelude.{if◌then◌else◌}
use Rattle.signal_values.specs.Values.{bit}
use Rattle.bsdl_device.specs.declared.entries.Register.TheVariants.{Boundary}
use Rattle.test_logic.specs.declared.Action.TheVariants.{Keeps}
use Rattle.test_logic.specs.declared.TapState.{TapState}
use Rattle.test_logic.specs.declared.TapState.TheVariants.{CaptureDr, ShiftDr, UpdateDr}
use Rattle.test_logic.specs.Controller.{dr_action}
use Rattle.test_logic.specs.Machine.{selects}
use Rattle.tap_gates.specs.Controller.{same_state}
use Rattle.register_gates.specs.BitsLaws.{is_capture, is_shift}
use Rattle.boundary_cells.specs.MachineRows.{is_update}
use Rattle.surrounded_core.specs.Selections.{SelectedSteers}

capture_is : (selected : Bool) (w : TapState) → (selected && same_state CaptureDr w) ≡ is_capture (if selected then dr_action w else Keeps)
capture_is true w = grind arith
capture_is false w = refl

shift_is : (selected : Bool) (w : TapState) → (selected && same_state ShiftDr w) ≡ is_shift (if selected then dr_action w else Keeps)
shift_is true w = grind arith
shift_is false w = refl

update_is : (selected : Bool) (w : TapState) → (selected && same_state UpdateDr w) ≡ (selected && is_update w)
update_is true w = grind arith
update_is false w = refl

pub selected_steers : SelectedSteers
selected_steers = λ nets next L levels machine place m carries selected next_in. record {
  carries = carries;
  steers = record {
    capture = selected.capture ∙ ap bit (capture_is (selects L machine Boundary) machine.state);
    shift = selected.shift ∙ ap bit (shift_is (selects L machine Boundary) machine.state);
  };
  updates = selected.update ∙ ap bit (update_is (selects L machine Boundary) machine.state);
  mode = record { extest = selected.extest; m_out = selected.m_out; m_in = selected.m_in; hiz = selected.hiz };
  next_in = next_in;
}
