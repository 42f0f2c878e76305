-- The controller's cells follow the test logic.
use Rattle.std.proofs.Common.{◌≡◌, ℕ, zero, suc, ◌+◌, ◌≤◌, Bool, true, false, List, [], ◌∷◌, length, refl, ap, ◌∙◌, arith}
use Rattle.std.specs.Prelude.{Some, slice_get, if◌then◌else◌}
use Rattle.signal_values.specs.declared.Sig.{Sig}
use Rattle.signal_values.specs.declared.Sig.TheVariants.{Zero, One}
use Rattle.signal_values.specs.Values.{bit}
use Rattle.cell_library.specs.declared.Kind.TheVariants.{Flop}
use Rattle.cell_library.specs.declared.FlopKind.{FlopKind}
use Rattle.cell_library.specs.declared.Edge.TheVariants.{Rise}
use Rattle.cell_library.specs.declared.ResetTo.{ResetTo}
use Rattle.cell_library.specs.declared.ResetTo.TheVariants.{Zero as ToZero, One as ToOne}
use Rattle.cell_library.specs.Flops.{is_edge, reset_or}
use Rattle.netlist_model.specs.declared.NetId.{NetId}
use Rattle.netlist_model.specs.declared.Feed.TheVariants.{Net}
use Rattle.netlist_model.specs.Lists.{NetlistView}
use Rattle.netlist_model.specs.Settled.{IsSettled}
use Rattle.netlist_model.specs.Formed.{IsWellFormed}
use Rattle.netlist_model.specs.Contained.{HasCells}
use Rattle.netlist_model.specs.LawsRuns.{RunHasMoments}
use Rattle.netlist_model.specs.Runs.{Moment, PinEvent, IsStart, IsStep, IsRun}
use Rattle.gate_parts.specs.Laws.{FlopOn, FlopStarts, FlopSteps}
use Rattle.gate_parts.specs.PartLaws.{ContainedPartMeets, ContainedPartHasFlops}
use Rattle.gate_parts.specs.declared.Gate.{Gate}
use Rattle.gate_parts.specs.declared.Pin.TheVariants.{Own, Given}
use Rattle.gate_parts.specs.declared.Pins.TheVariants.{Three}
use Rattle.test_logic.specs.declared.TapState.{TapState}
use Rattle.test_logic.specs.declared.TapState.TheVariants.{TestLogicReset, RunTestIdle, SelectDrScan, CaptureDr, ShiftDr, Exit1Dr, PauseDr, Exit2Dr, UpdateDr, SelectIrScan, CaptureIr, ShiftIr, Exit1Ir, PauseIr, Exit2Ir, UpdateIr}
use Rattle.test_logic.specs.declared.Levels.{Levels}
use Rattle.test_logic.specs.Controller.{state_after}
use Rattle.test_logic.specs.Machine.{TestLogic, Machine, IsHistory, machine_step}
use Rattle.tap_gates.specs.declared.table.TheConstants.{CONTROLLER}
use Rattle.tap_gates.specs.Controller.{tap_cells, tap_given, tap_nets, place, same_state}
use Rattle.tap_gates.specs.Laws.{Carries, HoldsState, ShowsState, state_step, StepIsTheMachines, TapFollows}
use Rattle.tap_gates.proofs.NextBits.{HoldsBits, next_bits, next_bit, one_hot}

-- the laws that hold of every part
pub record PartLaws : Type 0 where
  pub meets : ContainedPartMeets
  pub flops : ContainedPartHasFlops
  pub starts : FlopStarts
  pub steps : FlopSteps
  pub moments : RunHasMoments

-- the flip-flop of a state
abbrev pub reset_to : TapState → ResetTo
reset_to TestLogicReset = ToOne
reset_to _ = ToZero

abbrev pub flop_kind : TapState → FlopKind
flop_kind s = record { edge = Rise; reset = reset_to s }

abbrev flop_gate : TapState → Gate
flop_gate s = record { kind = Flop (flop_kind s); pins = Three (Own (17 + place s)) (Given 0) (Given 2) }

flop_there : (s : TapState) → slice_get CONTROLLER (place s) ≡ Some (flop_gate s)
flop_there TestLogicReset = refl
flop_there RunTestIdle = refl
flop_there SelectDrScan = refl
flop_there CaptureDr = refl
flop_there ShiftDr = refl
flop_there Exit1Dr = refl
flop_there PauseDr = refl
flop_there Exit2Dr = refl
flop_there UpdateDr = refl
flop_there SelectIrScan = refl
flop_there CaptureIr = refl
flop_there ShiftIr = refl
flop_there Exit1Ir = refl
flop_there PauseIr = refl
flop_there Exit2Ir = refl
flop_there UpdateIr = refl

pub reset_low : (s : TapState) (x : Sig) → reset_or (reset_to s) Zero x ≡ bit (same_state s TestLogicReset)
reset_low TestLogicReset x = refl
reset_low RunTestIdle x = refl
reset_low SelectDrScan x = refl
reset_low CaptureDr x = refl
reset_low ShiftDr x = refl
reset_low Exit1Dr x = refl
reset_low PauseDr x = refl
reset_low Exit2Dr x = refl
reset_low UpdateDr x = refl
reset_low SelectIrScan x = refl
reset_low CaptureIr x = refl
reset_low ShiftIr x = refl
reset_low Exit1Ir x = refl
reset_low PauseIr x = refl
reset_low Exit2Ir x = refl
reset_low UpdateIr x = refl

pub reset_high : (s : TapState) (x : Sig) → reset_or (reset_to s) One x ≡ x
reset_high TestLogicReset x = refl
reset_high RunTestIdle x = refl
reset_high SelectDrScan x = refl
reset_high CaptureDr x = refl
reset_high ShiftDr x = refl
reset_high Exit1Dr x = refl
reset_high PauseDr x = refl
reset_high Exit2Dr x = refl
reset_high UpdateDr x = refl
reset_high SelectIrScan x = refl
reset_high CaptureIr x = refl
reset_high ShiftIr x = refl
reset_high Exit1Ir x = refl
reset_high PauseIr x = refl
reset_high Exit2Ir x = refl
reset_high UpdateIr x = refl

pub flop_at : PartLaws → (N : NetlistView) (first number : ℕ) (tck tms trst : NetId) → IsWellFormed N → HasCells N (tap_cells first number tck tms trst) → (s : TapState)
    → FlopOn N (flop_kind s) (Net (record { 0 = first + (17 + place s) }) ∷ Net tck ∷ Net trst ∷ []) (first + place s)
flop_at by N first number tck tms trst formed has s = by.flops N CONTROLLER (tap_given tck tms trst) first number formed has (place s) (flop_gate s) (flop_kind s) (flop_there s) refl

start_at : PartLaws → (N : NetlistView) (first number : ℕ) (tck tms trst : NetId) (given : ℕ → Sig) (levels : Levels) (m : Moment) → IsWellFormed N → HasCells N (tap_cells first number tck tms trst)
    → IsStart N given m → Carries tck tms trst levels m → levels.trst ≡ false → HoldsState first TestLogicReset m
start_at by N first number tck tms trst given levels m formed has start carried low = record { each = go }
  where
    down : m.value trst.0 ≡ Zero
    down = carried.reset ∙ ap bit low

    go : (s : TapState) → m.value (first + place s) ≡ bit (same_state s TestLogicReset)
    go s =
        let on = flop_at by N first number tck tms trst formed has s in
        let h : m.value (first + place s) ≡ reset_or (reset_to s) (m.value trst.0) (given on.has.number) = by.starts N _ _ (first + place s) on given m start in
        rw (h, down) (reset_low s _)

-- what the flip-flops hold after an event
abbrev pub bits_step : (TapState → Bool) → Levels → Levels → TapState → Bool
bits_step f before after s = if after.trst then (if before.tck then f s else (if after.tck then next_bits f before.tms s else f s)) else same_state s TestLogicReset

-- a flip-flop by the levels
flop_law : (s : TapState) (own next : Bool) (clock clock' reset' : Bool)
    → reset_or (reset_to s) (bit reset') (if is_edge Rise (bit clock) (bit clock') then bit next else bit own)
    ≡ bit (if reset' then (if clock then own else (if clock' then next else own)) else same_state s TestLogicReset)
flop_law s own next clock clock' false = reset_low s _
flop_law s own next true clock' true = reset_high s _
flop_law s own next false true true = reset_high s _
flop_law s own next false false true = reset_high s _

pub step_bits : PartLaws → (N : NetlistView) (first number : ℕ) (tck tms trst : NetId) (event : PinEvent) (f : TapState → Bool) (before after : Levels) (m m' : Moment) → IsWellFormed N
    → HasCells N (tap_cells first number tck tms trst) → IsSettled N m.pins m.state m.value → IsStep N event m m' → Carries tck tms trst before m → Carries tck tms trst after m'
    → HoldsBits first f m → HoldsBits first (bits_step f before after) m'
step_bits by N first number tck tms trst event f before after m m' formed has settled step carried carried' held = record { each = go }
  where
    go : (s : TapState) → m'.value (first + place s) ≡ bit (bits_step f before after s)
    go s =
        let h : m'.value (first + place s) ≡ reset_or (reset_to s) (m'.value trst.0) (if is_edge Rise (m.value tck.0) (m'.value tck.0) then m.value (first + (17 + place s)) else m.value (first + place s))
        = by.steps N _ _ (first + place s) (flop_at by N first number tck tms trst formed has s) event m m' settled step in
        let next = next_bit N.library first tck tms trst f before m (by.meets N CONTROLLER (tap_given tck tms trst) first number formed has _ m.state m.value settled) carried held s in
        let own : m.value (first + place s) ≡ bit (f s) = held.each s in
        rw (h, next, own, carried'.reset, carried.clock, carried'.clock) (flop_law s (f s) (next_bits f before.tms s) before.tck after.tck after.trst)

-- one state
hot_step : (w : TapState) (before after : Levels) (s : TapState) → bits_step (λ x. same_state x w) before after s ≡ same_state s (state_step w before after)
hot_step w before after s = by_levels before.tck after.tck after.trst
  where
    by_levels : (a b c : Bool) → (if c then (if a then same_state s w else (if b then next_bits (λ x. same_state x w) before.tms s else same_state s w)) else same_state s TestLogicReset)
        ≡ same_state s (if c then (if a then w else (if b then state_after w before.tms else w)) else TestLogicReset)
    by_levels a b false = refl
    by_levels true b true = refl
    by_levels false true true = one_hot w before.tms s
    by_levels false false true = refl

step_at : PartLaws → (N : NetlistView) (first number : ℕ) (tck tms trst : NetId) (event : PinEvent) (w : TapState) (before after : Levels) (m m' : Moment) → IsWellFormed N
    → HasCells N (tap_cells first number tck tms trst) → IsSettled N m.pins m.state m.value → IsStep N event m m' → Carries tck tms trst before m → Carries tck tms trst after m'
    → HoldsState first w m → HoldsState first (state_step w before after) m'
step_at by N first number tck tms trst event w before after m m' formed has settled step carried carried' held =
    let bits = step_bits by N first number tck tms trst event (λ x. same_state x w) before after m m' formed has settled step carried carried' (record { each = held.each }) in
    record { each = λ s. bits.each s ∙ ap bit (hot_step w before after s) }

-- the test logic's own state
pub machine_state : StepIsTheMachines
machine_state = λ L before after captured machine. by_levels L before after captured machine before.tck after.tck after.trst refl refl refl
  where
    by_levels : (L : TestLogic) (before after : Levels) (captured : List Sig) (machine : Machine) (a b c : Bool) → before.tck ≡ a → after.tck ≡ b → after.trst ≡ c → (machine_step L before after captured machine).state ≡ state_step machine.state before after
    by_levels L before after captured machine a b false ea eb ec = rw ec refl
    by_levels L before after captured machine true true true ea eb ec = rw (ec, ea, eb) refl
    by_levels L before after captured machine true false true ea eb ec = rw (ec, ea, eb) refl
    by_levels L before after captured machine false true true ea eb ec = rw (ec, ea, eb) refl
    by_levels L before after captured machine false false true ea eb ec = rw (ec, ea, eb) refl

shown : (first : ℕ) (tck trst : NetId) (w : TapState) (m : Moment) → HoldsState first w m → ShowsState (tap_nets first tck trst) w m
shown first tck trst w m held = record {
  in_reset = held.each TestLogicReset;
  capture_dr = held.each CaptureDr;
  shift_dr = held.each ShiftDr;
  update_dr = held.each UpdateDr;
  capture_ir = held.each CaptureIr;
  shift_ir = held.each ShiftIr;
  update_ir = held.each UpdateIr;
}

held_at : PartLaws → (N : NetlistView) (first number : ℕ) (tck tms trst : NetId) (given : ℕ → Sig) (events : List PinEvent) (moment : ℕ → Moment) → IsWellFormed N
    → HasCells N (tap_cells first number tck tms trst) → IsRun N given events moment
    → (L : TestLogic) (levels : ℕ → Levels) (captured : ℕ → List Sig) (machine : ℕ → Machine) → IsHistory L levels captured (length events) machine
    → ((t : ℕ) → t ≤ length events → Carries tck tms trst (levels t) (moment t))
    → (t : ℕ) → t ≤ length events → HoldsState first (machine t).state (moment t)
held_at by N first number tck tms trst given events moment formed has run L levels captured machine history carried zero below =
    let at : (machine 0).state ≡ TestLogicReset = ap (λ (x : Machine). x.state) history.start in
    rw at (start_at by N first number tck tms trst given (levels 0) (moment 0) formed has run.start (carried 0 below) history.low)
held_at by N first number tck tms trst given events moment formed has run L levels captured machine history carried (suc t) below =
    let before : t ≤ length events = omega arith in
    let now = by.moments N given events moment run t before in
    let event = now.step (omega arith) in
    let at : (machine (suc t)).state ≡ state_step (machine t).state (levels t) (levels (suc t))
    = ap (λ (x : Machine). x.state) (history.steps t (omega arith)) ∙ machine_state L (levels t) (levels (suc t)) (captured t) (machine t) in
    rw at (step_at by N first number tck tms trst event.0 (machine t).state (levels t) (levels (suc t)) (moment t) (moment (suc t)) formed has
    now.settled event.2 (carried t before) (carried (suc t) below)
    (held_at by N first number tck tms trst given events moment formed has run L levels captured machine history carried t before))

pub tap_follows : PartLaws → TapFollows
tap_follows by first number tck tms trst = record {
  start = λ N given levels m formed has start carried low. start_at by N first number tck tms trst given levels m formed has start carried low;
  step = λ N event w before after m m' formed has settled step carried carried' held. step_at by N first number tck tms trst event w before after m m' formed has settled step carried carried' held;
  shows = λ w m held. shown first tck trst w m held;
  whole_run = λ N given events moment formed has run L levels captured machine history carried t below.
      let held = held_at by N first number tck tms trst given events moment formed has run L levels captured machine history carried t below in
      (held, shown first tck trst (machine t).state (moment t) held);
}
