-- A bit of a shift stage captures, shifts and keeps as the stage does.
use Rattle.std.proofs.Common.{◌≡◌, ℕ, ◌+◌, Bool, true, false, ◌∷◌, [], refl, arith}
use Rattle.std.specs.Prelude.{if◌then◌else◌}
use Rattle.signal_values.specs.declared.Sig.{Sig}
use Rattle.signal_values.specs.declared.Sig.TheVariants.{Zero, One}
use Rattle.signal_values.specs.Values.{bit, sig_mux}
use Rattle.signal_values.proofs.Laws.{mux-one, mux-zero}
use Rattle.cell_library.specs.declared.Edge.TheVariants.{Rise}
use Rattle.cell_library.specs.declared.ResetTo.TheVariants.{Zero as ToZero}
use Rattle.cell_library.specs.Flops.{is_edge, reset_or}
use Rattle.netlist_model.specs.declared.NetId.{NetId}
use Rattle.netlist_model.specs.declared.Feed.{Feed}
use Rattle.netlist_model.specs.Lists.{NetlistView}
use Rattle.netlist_model.specs.Settled.{feed_value, IsSettled}
use Rattle.netlist_model.specs.Formed.{IsWellFormed}
use Rattle.netlist_model.specs.Contained.{HasCells}
use Rattle.netlist_model.specs.Runs.{Moment, PinEvent, IsStart, IsStep}
use Rattle.gate_parts.specs.Laws.{FlopStarts, FlopSteps}
use Rattle.gate_parts.specs.PartLaws.{ContainedPartMeets, ContainedPartHasFlops}
use Rattle.tap_gates.specs.test_logic.declared.Levels.{Levels}
use Rattle.tap_gates.specs.test_logic.declared.Action.{Action}
use Rattle.tap_gates.specs.test_logic.declared.Action.TheVariants.{Captures, Shifts, Keeps}
use Rattle.tap_gates.specs.test_logic.Controller.{act}
use Rattle.tap_gates.specs.test_logic.Machine.{edge_of}
use Rattle.register_gates.specs.declared.bits.Steering.{Steering}
use Rattle.register_gates.specs.declared.bits.TheConstants.{SHIFT_BIT}
use Rattle.register_gates.specs.Bits.{shift_bit_given, shift_bit_cells}
use Rattle.register_gates.specs.BitsLaws.{Carries, Steers, is_capture, is_shift, on_edge, bit_after, ShiftBitsFollow}

-- the two multiplexers before the bit
acted : (action : Action) (captured next kept : Sig)
    → sig_mux (bit (is_capture action)) (sig_mux (bit (is_shift action)) kept next) captured ≡ act action captured next kept
acted Captures captured next kept = mux-one (sig_mux Zero kept next) captured
acted Shifts captured next kept = rw (mux-zero (sig_mux One kept next) captured) (mux-one kept next)
acted Keeps captured next kept = rw (mux-zero (sig_mux Zero kept next) captured) (mux-zero kept next)

-- the flip-flop, by the levels
risen : (clock clock' reset' : Bool) (next kept : Sig)
    → reset_or ToZero (bit reset') (if is_edge Rise (bit clock) (bit clock') then next else kept) ≡ (if reset' then on_edge (edge_of clock clock') next kept kept else Zero)
risen clock clock' false next kept = refl
risen true true true next kept = refl
risen true false true next kept = refl
risen false true true next kept = refl
risen false false true next kept = refl

bit_law : (action : Action) (before after : Levels) (captured next kept : Sig)
    → reset_or ToZero (bit after.trst) (if is_edge Rise (bit before.tck) (bit after.tck)
    then sig_mux (bit (is_capture action)) (sig_mux (bit (is_shift action)) kept next) captured else kept)
    ≡ bit_after before after Zero (act action captured next kept) kept kept
bit_law action before after captured next kept = rw (acted action captured next kept) (risen before.tck after.tck after.trst _ kept)

start_at : ContainedPartHasFlops → FlopStarts → (N : NetlistView) (first number : ℕ) (by : Steering) (captured : Feed) (next : NetId) (given : ℕ → Sig) (levels : Levels) (m : Moment)
    → IsWellFormed N → HasCells N (shift_bit_cells first number by captured next) → IsStart N given m → Carries by.tck by.trst levels m → levels.trst ≡ false → m.value first ≡ Zero
start_at flops starts N first number by captured next given levels m formed has start carried low =
    let z : first + 0 ≡ first = omega arith in
    let on = flops N SHIFT_BIT (shift_bit_given by captured next) first number formed has 0 _ _ refl refl in
    let h : m.value (first + 0) ≡ reset_or ToZero (m.value by.trst.0) (given on.has.number) = starts N _ _ (first + 0) on given m start in
    let h' : m.value first ≡ reset_or ToZero (m.value by.trst.0) (given on.has.number) = rw z at h in
    rw (h', carried.reset, low) refl

step_at : ContainedPartMeets → ContainedPartHasFlops → FlopSteps → (N : NetlistView) (first number : ℕ) (by : Steering) (captured : Feed) (next : NetId)
    (event : PinEvent) (action : Action) (before after : Levels) (m m' : Moment) → IsWellFormed N → HasCells N (shift_bit_cells first number by captured next)
    → IsSettled N m.pins m.state m.value → IsStep N event m m' → Carries by.tck by.trst before m → Carries by.tck by.trst after m' → Steers by action m
    → m'.value first ≡ bit_after before after Zero (act action (feed_value m.value captured) (m.value next.0) (m.value first)) (m.value first) (m.value first)
step_at meets flops steps N first number by captured next event action before after m m' formed has settled step carried carried' steers =
    let z : first + 0 ≡ first = omega arith in
    let given = shift_bit_given by captured next in
    let on = flops N SHIFT_BIT given first number formed has 0 _ _ refl refl in
    let f : m'.value (first + 0) ≡ reset_or ToZero (m'.value by.trst.0) (if is_edge Rise (m.value by.tck.0) (m'.value by.tck.0) then m.value (first + 1) else m.value (first + 0))
    = steps N _ _ (first + 0) on event m m' settled step in
    let f' : m'.value first ≡ reset_or ToZero (m'.value by.trst.0) (if is_edge Rise (m.value by.tck.0) (m'.value by.tck.0) then m.value (first + 1) else m.value first) = rw z at f in
    let e1 : m.value (first + 1) ≡ sig_mux (m.value by.capture.0) (m.value (first + 2)) (feed_value m.value captured) = (meets N SHIFT_BIT given first number formed has _ _ _ settled 1 _ refl refl).1 in
    let e2 : m.value (first + 2) ≡ sig_mux (m.value by.shift.0) (m.value (first + 0)) (m.value next.0) = (meets N SHIFT_BIT given first number formed has _ _ _ settled 2 _ refl refl).1 in
    let e2' : m.value (first + 2) ≡ sig_mux (m.value by.shift.0) (m.value first) (m.value next.0) = rw z at e2 in
    rw (f', e1, e2', steers.capture, steers.shift, carried.clock, carried'.clock, carried'.reset) (bit_law action before after _ _ _)

pub shift_bits : ContainedPartMeets → ContainedPartHasFlops → FlopStarts → FlopSteps → ShiftBitsFollow
shift_bits meets flops starts steps = λ first number by captured next. record {
  start = λ N given levels m formed has start carried low. start_at flops starts N first number by captured next given levels m formed has start carried low;
  step = λ N event action before after m m' formed has settled step carried carried' steers.
      step_at meets flops steps N first number by captured next event action before after m m' formed has settled step carried carried' steers;
}
