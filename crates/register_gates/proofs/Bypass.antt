-- The bypass register is that of the test logic.
use Rattle.std.proofs.Common.{◌≡◌, ℕ, suc, ◌+◌, ◌≤◌, Bool, false, List, length, sym, ap, ◌∙◌, arith}
use Rattle.signal_values.specs.declared.Sig.{Sig}
use Rattle.signal_values.specs.declared.Sig.TheVariants.{Zero}
use Rattle.signal_values.specs.Values.{bit}
use Rattle.netlist_model.specs.declared.NetId.{NetId}
use Rattle.netlist_model.specs.declared.Feed.TheVariants.{Const}
use Rattle.netlist_model.specs.Lists.{NetlistView}
use Rattle.netlist_model.specs.Settled.{IsSettled}
use Rattle.netlist_model.specs.Formed.{IsWellFormed}
use Rattle.netlist_model.specs.Contained.{HasCells}
use Rattle.netlist_model.specs.Runs.{Moment, PinEvent, IsStart, IsStep, IsRun}
use Rattle.netlist_model.specs.LawsContained.{ContainedParts}
use Rattle.netlist_model.specs.LawsRuns.{RunHasMoments}
use Rattle.gate_parts.specs.PartLaws.{ContainedPartMeets}
use Rattle.tap_gates.specs.bsdl_device.declared.entries.Register.TheVariants as register
use Rattle.tap_gates.specs.test_logic.declared.TapNets.{TapNets}
use Rattle.tap_gates.specs.test_logic.declared.TapState.{TapState}
use Rattle.tap_gates.specs.test_logic.declared.Levels.{Levels}
use Rattle.tap_gates.specs.test_logic.Controller.{act}
use Rattle.tap_gates.specs.test_logic.Registers.{bypass_after}
use Rattle.tap_gates.specs.test_logic.Machine.{TestLogic, Machine, IsHistory, selects}
use Rattle.register_gates.specs.Bits.{shift_bit_cells}
use Rattle.register_gates.specs.BitsLaws.{Carries, bit_after, ShiftBitsFollow}
use Rattle.register_gates.specs.Registers.{selected_cells, selected_steering, bypass_cells}
use Rattle.register_gates.specs.Laws.{Directs, DirectsRun, BypassFollows}
use Rattle.register_gates.proofs.Steps.{by_register, all_along}
use Rattle.register_gates.proofs.Selection.{selected_action, acted, steered}

-- the laws of what it is made of
pub record PartLaws : Type 0 where
  pub parts : ContainedParts
  pub meets : ContainedPartMeets
  pub bits : ShiftBitsFollow
  pub moments : RunHasMoments

start_at : PartLaws → (N : NetlistView) (first number : ℕ) (tap : TapNets) (on tdi : NetId) (given : ℕ → Sig) (levels : Levels) (m : Moment) → IsWellFormed N
    → HasCells N (bypass_cells first number tap on tdi) → IsStart N given m → Carries tap.tck tap.trst levels m → levels.trst ≡ false → m.value (first + 2) ≡ Zero
start_at by N first number tap on tdi given levels m formed has start carried low =
    let apart = (by.parts N (selected_cells first number tap on) (shift_bit_cells (first + 2) (number + 2) (selected_steering first tap) (Const false) tdi)).parts has in
    (by.bits (first + 2) (number + 2) (selected_steering first tap) (Const false) tdi).start N given levels m formed apart.1 start carried low

step_at : PartLaws → (N : NetlistView) (first number : ℕ) (tap : TapNets) (on tdi : NetId) (event : PinEvent) (w : TapState) (selected : Bool) (before after : Levels) (m m' : Moment)
    → IsWellFormed N → HasCells N (bypass_cells first number tap on tdi) → IsSettled N m.pins m.state m.value → IsStep N event m m'
    → Directs tap on tdi before w selected m → Carries tap.tck tap.trst after m'
    → m'.value (first + 2) ≡ bit_after before after Zero (bypass_after selected w (bit before.tdi) (m.value (first + 2))) (m.value (first + 2)) (m.value (first + 2))
step_at by N first number tap on tdi event w selected before after m m' formed has settled step directs carried' =
    let apart = (by.parts N (selected_cells first number tap on) (shift_bit_cells (first + 2) (number + 2) (selected_steering first tap) (Const false) tdi)).parts has in
    let steers = steered by.meets N first number tap on w selected m formed apart.0 settled directs.shows directs.selection in
    let v : Sig = m.value (first + 2) in
    let e : m'.value (first + 2) ≡ bit_after before after Zero (act (selected_action selected w) Zero (m.value tdi.0) v) v v
    = (by.bits (first + 2) (number + 2) (selected_steering first tap) (Const false) tdi).step N event (selected_action selected w) before after m m' formed apart.1 settled step
    directs.carries carried' steers in
    e ∙ ap (λ (x : Sig). bit_after before after Zero x v v) (acted selected w Zero (m.value tdi.0) v ∙ ap (λ (d : Sig). bypass_after selected w d v) directs.data_in)

run_at : PartLaws → (N : NetlistView) (first number : ℕ) (tap : TapNets) (on tdi : NetId) (given : ℕ → Sig) (events : List PinEvent) (moment : ℕ → Moment) → IsWellFormed N
    → HasCells N (bypass_cells first number tap on tdi) → IsRun N given events moment
    → (L : TestLogic) (levels : ℕ → Levels) (captured : ℕ → List Sig) (machine : ℕ → Machine) → IsHistory L levels captured (length events) machine
    → DirectsRun tap on tdi register.Bypass (length events) moment L levels machine
    → (t : ℕ) → t ≤ length events → (moment t).value (first + 2) ≡ (machine t).bypass
run_at by N first number tap on tdi given events moment formed has run L levels captured machine history directs =
    all_along by.moments N given events moment run (λ t. (moment t).value (first + 2) ≡ (machine t).bypass) base more
  where
    base : (moment 0).value (first + 2) ≡ (machine 0).bypass
    base = start_at by N first number tap on tdi given (levels 0) (moment 0) formed has run.start (directs 0 (omega arith)).carries history.low
        ∙ sym (ap (λ (x : Machine). x.bypass) history.start)

    more : (t : ℕ) → suc t ≤ length events → (event : PinEvent) → IsSettled N (moment t).pins (moment t).state (moment t).value → IsStep N event (moment t) (moment (suc t))
        → (moment t).value (first + 2) ≡ (machine t).bypass → (moment (suc t)).value (first + 2) ≡ (machine (suc t)).bypass
    more t below event settled step held =
        let selected : Bool = selects L (machine t) register.Bypass in
        step_at by N first number tap on tdi event (machine t).state selected (levels t) (levels (suc t)) (moment t) (moment (suc t)) formed has settled step
        (directs t (omega arith)) (directs (suc t) below).carries
        ∙ ap (λ (v : Sig). bit_after (levels t) (levels (suc t)) Zero (bypass_after selected (machine t).state (bit (levels t).tdi) v) v v) held
        ∙ sym (ap (λ (x : Machine). x.bypass) (history.steps t below) ∙ (by_register L (levels t) (levels (suc t)) (captured t) (machine t)).bypass)

pub bypass : PartLaws → BypassFollows
bypass by = λ first number tap on tdi. record {
  start = λ N given levels m formed has start carried low. start_at by N first number tap on tdi given levels m formed has start carried low;
  step = λ N event w selected before after m m' formed has settled step directs carried'.
      step_at by N first number tap on tdi event w selected before after m m' formed has settled step directs carried';
  whole_run = λ N given events moment formed has run L levels captured machine history directs.
      run_at by N first number tap on tdi given events moment formed has run L levels captured machine history directs;
}
