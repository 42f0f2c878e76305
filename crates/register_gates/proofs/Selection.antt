-- A register that is steered only while it is selected.
use Rattle.std.proofs.Common.{◌≡◌, ℕ, ◌+◌, Bool, true, false, refl, arith}
use Rattle.std.specs.Prelude.{if◌then◌else◌}
use Rattle.signal_values.specs.Values.{bit, sig_and}
use Rattle.netlist_model.specs.declared.NetId.{NetId}
use Rattle.netlist_model.specs.Lists.{NetlistView}
use Rattle.netlist_model.specs.Settled.{IsSettled}
use Rattle.netlist_model.specs.Formed.{IsWellFormed}
use Rattle.netlist_model.specs.Contained.{HasCells}
use Rattle.netlist_model.specs.Runs.{Moment}
use Rattle.gate_parts.specs.PartLaws.{ContainedPartMeets}
use Rattle.tap_gates.specs.test_logic.declared.TapNets.{TapNets}
use Rattle.tap_gates.specs.test_logic.declared.TapState.{TapState}
use Rattle.tap_gates.specs.test_logic.declared.TapState.TheVariants.{CaptureDr, ShiftDr}
use Rattle.tap_gates.specs.test_logic.declared.Action.{Action}
use Rattle.tap_gates.specs.test_logic.declared.Action.TheVariants.{Keeps}
use Rattle.tap_gates.specs.test_logic.Controller.{dr_action, act}
use Rattle.tap_gates.specs.Controller.{same_state}
use Rattle.tap_gates.specs.Laws.{ShowsState}
use Rattle.register_gates.specs.BitsLaws.{Steers, is_capture, is_shift}
use Rattle.register_gates.specs.declared.TheConstants.{SELECTED}
use Rattle.register_gates.specs.Registers.{selected_given, selected_cells, selected_steering}

abbrev pub selected_action : Bool → TapState → Action
selected_action selected w = if selected then dr_action w else Keeps

captures : (w : TapState) (selected : Bool) → sig_and (bit (same_state CaptureDr w)) (bit selected) ≡ bit (is_capture (selected_action selected w))
captures w selected = grind arith

shifts : (w : TapState) (selected : Bool) → sig_and (bit (same_state ShiftDr w)) (bit selected) ≡ bit (is_shift (selected_action selected w))
shifts w selected = grind arith

pub acted : {A : Type 0} (selected : Bool) (w : TapState) (captured shifted kept : A)
    → act (selected_action selected w) captured shifted kept ≡ (if selected then act (dr_action w) captured shifted kept else kept)
acted true w captured shifted kept = refl
acted false w captured shifted kept = refl

pub steered : ContainedPartMeets → (N : NetlistView) (first number : ℕ) (tap : TapNets) (on : NetId) (w : TapState) (selected : Bool) (m : Moment) → IsWellFormed N
    → HasCells N (selected_cells first number tap on) → IsSettled N m.pins m.state m.value → ShowsState tap w m → m.value on.0 ≡ bit selected
    → Steers (selected_steering first tap) (selected_action selected w) m
steered meets N first number tap on w selected m formed has settled shows is =
    let z : first + 0 ≡ first = omega arith in
    let a0 : m.value (first + 0) ≡ sig_and (m.value tap.capture_dr.0) (m.value on.0) = (meets N SELECTED (selected_given tap on) first number formed has _ m.state m.value settled 0 _ refl refl).1 in
    let a : m.value first ≡ sig_and (m.value tap.capture_dr.0) (m.value on.0) = rw z at a0 in
    let b : m.value (first + 1) ≡ sig_and (m.value tap.shift_dr.0) (m.value on.0) = (meets N SELECTED (selected_given tap on) first number formed has _ m.state m.value settled 1 _ refl refl).1 in
    record { capture = rw (a, shows.capture_dr, is) (captures w selected); shift = rw (b, shows.shift_dr, is) (shifts w selected) }
