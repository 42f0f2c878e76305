-- TDO is that of the test logic.
use Rattle.std.proofs.Common.{◌≡◌, ℕ, suc, ◌+◌, ◌≤◌, Bool, true, false, List, [], ◌∷◌, length, refl, sym, ap, ◌∙◌, Some, None, arith}
use Rattle.std.specs.Prelude.{Option, if◌then◌else◌}
use Rattle.signal_values.specs.declared.Sig.{Sig}
use Rattle.signal_values.specs.declared.Sig.TheVariants.{Zero, One}
use Rattle.signal_values.specs.declared.PinSig.{PinSig}
use Rattle.signal_values.specs.declared.PinSig.TheVariants.{HighZ}
use Rattle.signal_values.specs.Values.{bit, sig_mux, sig_or, drive}
use Rattle.signal_values.proofs.Laws.{mux-one, mux-zero}
use Rattle.cell_library.specs.declared.Edge.{Edge}
use Rattle.cell_library.specs.declared.Edge.TheVariants.{Rise, Fall}
use Rattle.cell_library.specs.declared.ResetTo.TheVariants.{Zero as ToZero}
use Rattle.cell_library.specs.Flops.{is_edge, reset_or}
use Rattle.netlist_model.specs.declared.Dir.TheVariants.{Output}
use Rattle.netlist_model.specs.declared.NetId.{NetId}
use Rattle.netlist_model.specs.Lists.{CellView, NetlistView, direction}
use Rattle.netlist_model.specs.Settled.{feed_value, IsSettled, drive_by, driver_of}
use Rattle.netlist_model.specs.Readings.{reading_of}
use Rattle.netlist_model.specs.Formed.{IsWellFormed}
use Rattle.netlist_model.specs.Contained.{HasCells}
use Rattle.netlist_model.specs.Runs.{Moment, PinEvent, IsStart, IsStep, IsRun, reading_at}
use Rattle.netlist_model.specs.LawsContained.{ContainedParts}
use Rattle.netlist_model.specs.Drivers.{DriverIsFound}
use Rattle.netlist_model.specs.LawsRuns.{RunHasMoments}
use Rattle.gate_parts.specs.Laws.{FlopStarts, FlopSteps}
use Rattle.gate_parts.specs.Parts.{part_cells}
use Rattle.gate_parts.specs.PartLaws.{ContainedPartMeets, ContainedPartHasFlops}
use Rattle.tap_gates.specs.bsdl_device.declared.entries.Register.{Register}
use Rattle.tap_gates.specs.bsdl_device.declared.entries.Register.TheVariants as register
use Rattle.tap_gates.specs.bsdl_device.Instructions.{is_register, selected_register}
use Rattle.tap_gates.specs.test_logic.declared.InstrNets.{InstrNets}
use Rattle.tap_gates.specs.test_logic.declared.TapNets.{TapNets}
use Rattle.tap_gates.specs.test_logic.declared.TapState.{TapState}
use Rattle.tap_gates.specs.test_logic.declared.TapState.TheVariants.{TestLogicReset, RunTestIdle, SelectDrScan, CaptureDr, ShiftDr, Exit1Dr, PauseDr, Exit2Dr, UpdateDr, SelectIrScan, CaptureIr, ShiftIr, Exit1Ir, PauseIr, Exit2Ir, UpdateIr}
use Rattle.tap_gates.specs.test_logic.declared.Levels.{Levels}
use Rattle.tap_gates.specs.test_logic.Registers.{first_bit, tdo_after}
use Rattle.tap_gates.specs.test_logic.Machine.{TestLogic, Machine, IsHistory, in_effect, bit_of, edge_of}
use Rattle.tap_gates.specs.Controller.{same_state}
use Rattle.register_gates.specs.BitsLaws.{Carries, on_edge, bit_after}
use Rattle.register_gates.specs.declared.tdo.TheConstants.{TDO}
use Rattle.register_gates.specs.Tdo.{ident_feed, tdo_given, tdo_driver, tdo_cells, tdo_given_by, data_bit, Presents, TdoFollows, TdoLetsGo}
use Rattle.register_gates.proofs.Steps.{by_register, all_along}

-- the laws of what it is made of
pub record PartLaws : Type 0 where
  pub parts : ContainedParts
  pub meets : ContainedPartMeets
  pub flops : ContainedPartHasFlops
  pub starts : FlopStarts
  pub steps : FlopSteps
  pub found : DriverIsFound
  pub moments : RunHasMoments

-- a flip-flop by the levels
fallen : (clock clock' reset' : Bool) (next kept : Sig)
    → reset_or ToZero (bit reset') (if is_edge Fall (bit clock) (bit clock') then next else kept) ≡ (if reset' then on_edge (edge_of clock clock') kept next kept else Zero)
fallen clock clock' false next kept = refl
fallen true true true next kept = refl
fallen true false true next kept = refl
fallen false true true next kept = refl
fallen false false true next kept = refl

-- what two flip-flops drive
both_driven : (edge : Option Edge) (reset' : Bool) (v e next_v next_e : Sig)
    → drive (if reset' then on_edge edge v next_v v else Zero) (if reset' then on_edge edge e next_e e else Zero)
    ≡ (if reset' then on_edge edge (drive v e) (drive next_v next_e) (drive v e) else HighZ)
both_driven edge false v e next_v next_e = refl
both_driven None true v e next_v next_e = refl
both_driven (Some Rise) true v e next_v next_e = refl
both_driven (Some Fall) true v e next_v next_e = refl

-- the bit that is selected
chosen : (selected : Register) (bypass : NetId) (ident : Option NetId) (boundary : NetId) (m : Moment)
    → sig_mux (bit (is_register register.DeviceId selected)) (sig_mux (bit (is_register register.Bypass selected)) (m.value boundary.0) (m.value bypass.0)) (feed_value m.value (ident_feed ident))
    ≡ data_bit selected bypass ident boundary m
chosen register.Boundary bypass ident boundary m =
    mux-zero (sig_mux Zero (m.value boundary.0) (m.value bypass.0)) (feed_value m.value (ident_feed ident)) ∙ mux-zero (m.value boundary.0) (m.value bypass.0)
chosen register.Bypass bypass ident boundary m =
    mux-zero (sig_mux One (m.value boundary.0) (m.value bypass.0)) (feed_value m.value (ident_feed ident)) ∙ mux-one (m.value boundary.0) (m.value bypass.0)
chosen register.DeviceId bypass ident boundary m = mux-one (sig_mux Zero (m.value boundary.0) (m.value bypass.0)) (feed_value m.value (ident_feed ident))

-- what a falling edge gives TDO
by_state : (w : TapState) (near last : Sig)
    → drive (sig_mux (bit (same_state ShiftIr w)) near last) (sig_or (bit (same_state ShiftDr w)) (bit (same_state ShiftIr w))) ≡ tdo_after w near last
by_state TestLogicReset near last = refl
by_state RunTestIdle near last = refl
by_state SelectDrScan near last = refl
by_state CaptureDr near last = refl
by_state ShiftDr near last = ap (λ (x : Sig). drive x One) (mux-zero near last)
by_state Exit1Dr near last = refl
by_state PauseDr near last = refl
by_state Exit2Dr near last = refl
by_state UpdateDr near last = refl
by_state SelectIrScan near last = refl
by_state CaptureIr near last = refl
by_state ShiftIr near last = ap (λ (x : Sig). drive x One) (mux-one near last)
by_state Exit1Ir near last = refl
by_state PauseIr near last = refl
by_state Exit2Ir near last = refl
by_state UpdateIr near last = refl

apart : PartLaws → (N : NetlistView) (first number : ℕ) (tap : TapNets) (instruction : InstrNets) (bypass : NetId) (ident : Option NetId) (boundary tdo : NetId)
    → HasCells N (tdo_cells first number tap instruction bypass ident boundary tdo)
    → HasCells N (part_cells TDO (tdo_given tap instruction bypass ident boundary) first number) × HasCells N (tdo_driver first tdo (number + 6) ∷ [])
apart by N first number tap instruction bypass ident boundary tdo has =
    (by.parts N (part_cells TDO (tdo_given tap instruction bypass ident boundary) first number) (tdo_driver first tdo (number + 6) ∷ [])).parts has

start_at : PartLaws → (N : NetlistView) (first number : ℕ) (tap : TapNets) (instruction : InstrNets) (bypass : NetId) (ident : Option NetId) (boundary tdo : NetId)
    (given : ℕ → Sig) (levels : Levels) (m : Moment) → IsWellFormed N → HasCells N (tdo_cells first number tap instruction bypass ident boundary tdo)
    → IsStart N given m → Carries tap.tck tap.trst levels m → levels.trst ≡ false → tdo_given_by first m ≡ HighZ
start_at by N first number tap instruction bypass ident boundary tdo given levels m formed has start carried low =
    let cells = (apart by N first number tap instruction bypass ident boundary tdo has).0 in
    let on = by.flops N TDO (tdo_given tap instruction bypass ident boundary) first number formed cells 1 _ _ refl refl in
    let e : m.value (first + 1) ≡ reset_or ToZero (m.value tap.trst.0) (given on.has.number) = by.starts N _ _ (first + 1) on given m start in
    let off : m.value (first + 1) ≡ Zero = rw (e, carried.reset, low) refl in
    ap (λ (x : Sig). drive (m.value first) x) off

-- the flip-flops and the gates before them
record Steps (first : ℕ) (tap : TapNets) (instruction : InstrNets) (bypass : NetId) (ident : Option NetId) (boundary : NetId) (m m' : Moment) : Type 0 where
  value_next : m'.value first ≡ reset_or ToZero (m'.value tap.trst.0) (if is_edge Fall (m.value tap.tck.0) (m'.value tap.tck.0) then m.value (first + 2) else m.value first)
  enable_next : m'.value (first + 1) ≡ reset_or ToZero (m'.value tap.trst.0) (if is_edge Fall (m.value tap.tck.0) (m'.value tap.tck.0) then m.value (first + 5) else m.value (first + 1))
  value_before : m.value (first + 2) ≡ sig_mux (m.value tap.shift_ir.0)
      (sig_mux (m.value instruction.ident_on.0) (sig_mux (m.value instruction.bypass_on.0) (m.value boundary.0) (m.value bypass.0)) (feed_value m.value (ident_feed ident))) (m.value instruction.last.0)
  enable_before : m.value (first + 5) ≡ sig_or (m.value tap.shift_dr.0) (m.value tap.shift_ir.0)

steps_of : PartLaws → (N : NetlistView) (first number : ℕ) (tap : TapNets) (instruction : InstrNets) (bypass : NetId) (ident : Option NetId) (boundary tdo : NetId) (event : PinEvent) (m m' : Moment)
    → IsWellFormed N → HasCells N (tdo_cells first number tap instruction bypass ident boundary tdo) → IsSettled N m.pins m.state m.value → IsStep N event m m'
    → Steps first tap instruction bypass ident boundary m m'
steps_of by N first number tap instruction bypass ident boundary tdo event m m' formed has settled step =
    let cells = (apart by N first number tap instruction bypass ident boundary tdo has).0 in
    let given = tdo_given tap instruction bypass ident boundary in
    let eqs = by.meets N TDO given first number formed cells _ m.state m.value settled in
    let z : first + 0 ≡ first = omega arith in
    let f0 : m'.value (first + 0) ≡ reset_or ToZero (m'.value tap.trst.0) (if is_edge Fall (m.value tap.tck.0) (m'.value tap.tck.0) then m.value (first + 2) else m.value (first + 0))
    = by.steps N _ _ (first + 0) (by.flops N TDO given first number formed cells 0 _ _ refl refl) event m m' settled step in
    let f1 : m'.value (first + 1) ≡ reset_or ToZero (m'.value tap.trst.0) (if is_edge Fall (m.value tap.tck.0) (m'.value tap.tck.0) then m.value (first + 5) else m.value (first + 1))
    = by.steps N _ _ (first + 1) (by.flops N TDO given first number formed cells 1 _ _ refl refl) event m m' settled step in
    let e2 : m.value (first + 2) ≡ sig_mux (m.value tap.shift_ir.0) (m.value (first + 3)) (m.value instruction.last.0) = (eqs 2 _ refl refl).1 in
    let e3 : m.value (first + 3) ≡ sig_mux (m.value instruction.ident_on.0) (m.value (first + 4)) (feed_value m.value (ident_feed ident)) = (eqs 3 _ refl refl).1 in
    let e4 : m.value (first + 4) ≡ sig_mux (m.value instruction.bypass_on.0) (m.value boundary.0) (m.value bypass.0) = (eqs 4 _ refl refl).1 in
    let e5 : m.value (first + 5) ≡ sig_or (m.value tap.shift_dr.0) (m.value tap.shift_ir.0) = (eqs 5 _ refl refl).1 in
    record {
      value_next = rw z at f0;
      enable_next = f1;
      value_before = e2 ∙ ap (λ (x : Sig). sig_mux (m.value tap.shift_ir.0) x (m.value instruction.last.0))
          (e3 ∙ ap (λ (x : Sig). sig_mux (m.value instruction.ident_on.0) x (feed_value m.value (ident_feed ident))) e4);
      enable_before = e5;
    }

step_at : PartLaws → (N : NetlistView) (first number : ℕ) (tap : TapNets) (instruction : InstrNets) (bypass : NetId) (ident : Option NetId) (boundary tdo : NetId) (event : PinEvent)
    (w : TapState) (selected : Register) (selected_bit instruction_bit : Sig) (before after : Levels) (m m' : Moment)
    → IsWellFormed N → HasCells N (tdo_cells first number tap instruction bypass ident boundary tdo) → IsSettled N m.pins m.state m.value → IsStep N event m m'
    → Presents tap instruction bypass ident boundary before w selected selected_bit instruction_bit m → Carries tap.tck tap.trst after m'
    → tdo_given_by first m' ≡ bit_after before after HighZ (tdo_given_by first m) (tdo_after w selected_bit instruction_bit) (tdo_given_by first m)
step_at by N first number tap instruction bypass ident boundary tdo event w selected selected_bit instruction_bit before after m m' formed has settled step presents carried' =
    let s = steps_of by N first number tap instruction bypass ident boundary tdo event m m' formed has settled step in
    let v : Sig = m.value first in
    let e : Sig = m.value (first + 1) in
    let next_v : Sig = m.value (first + 2) in
    let next_e : Sig = m.value (first + 5) in
    let a : m'.value first ≡ bit_after before after Zero v next_v v
    = rw (s.value_next, presents.carries.clock, carried'.clock, carried'.reset) (fallen before.tck after.tck after.trst next_v v) in
    let b : m'.value (first + 1) ≡ bit_after before after Zero e next_e e
    = rw (s.enable_next, presents.carries.clock, carried'.clock, carried'.reset) (fallen before.tck after.tck after.trst next_e e) in
    let near : sig_mux (m.value instruction.ident_on.0) (sig_mux (m.value instruction.bypass_on.0) (m.value boundary.0) (m.value bypass.0)) (feed_value m.value (ident_feed ident)) ≡ selected_bit
    = rw (presents.ident_on, presents.bypass_on) (chosen selected bypass ident boundary m ∙ presents.nearest) in
    let c : next_v ≡ sig_mux (bit (same_state ShiftIr w)) selected_bit instruction_bit
    = s.value_before
    ∙ ap (λ (x : Sig). sig_mux x (sig_mux (m.value instruction.ident_on.0) (sig_mux (m.value instruction.bypass_on.0) (m.value boundary.0) (m.value bypass.0)) (feed_value m.value (ident_feed ident))) (m.value instruction.last.0))
    presents.shows.shift_ir
    ∙ ap (λ (x : Sig). sig_mux (bit (same_state ShiftIr w)) x (m.value instruction.last.0)) near
    ∙ ap (λ (x : Sig). sig_mux (bit (same_state ShiftIr w)) selected_bit x) presents.last in
    let d : next_e ≡ sig_or (bit (same_state ShiftDr w)) (bit (same_state ShiftIr w))
    = s.enable_before ∙ ap (λ (x : Sig). sig_or x (m.value tap.shift_ir.0)) presents.shows.shift_dr ∙ ap (λ (x : Sig). sig_or (bit (same_state ShiftDr w)) x) presents.shows.shift_ir in
    ap (λ (x : Sig). drive x (m'.value (first + 1))) a ∙ ap (λ (x : Sig). drive (bit_after before after Zero v next_v v) x) b
    ∙ both_driven (edge_of before.tck after.tck) after.trst v e next_v next_e
    ∙ ap (λ (x : PinSig). bit_after before after HighZ (drive v e) x (drive v e))
    (ap (λ (x : Sig). drive x next_e) c ∙ ap (λ (x : Sig). drive (sig_mux (bit (same_state ShiftIr w)) selected_bit instruction_bit) x) d ∙ by_state w selected_bit instruction_bit)

reads_at : PartLaws → (N : NetlistView) (first number : ℕ) (tap : TapNets) (instruction : InstrNets) (bypass : NetId) (ident : Option NetId) (boundary tdo : NetId) (m : Moment)
    → IsWellFormed N → HasCells N (tdo_cells first number tap instruction bypass ident boundary tdo) → direction N.ports tdo.0 ≡ Some Output → reading_at N m tdo.0 ≡ tdo_given_by first m
reads_at by N first number tap instruction bypass ident boundary tdo m formed has out =
    let here = (apart by N first number tap instruction bypass ident boundary tdo has).1.0 in
    let cell : CellView = record (tdo_driver first tdo (number + 6)) { name = here.name } in
    let found : driver_of N.cells tdo.0 ≡ Some cell = by.found N formed.one_driver here.number cell tdo.0 (record { live = here.live; output = refl }) in
    ap (λ (x : Option CellView). reading_of (direction N.ports tdo.0) (drive_by x m.value tdo.0) (m.pins tdo.0)) found
    ∙ ap (λ x. reading_of x (tdo_given_by first m) (m.pins tdo.0)) out

run_at : PartLaws → (N : NetlistView) (first number : ℕ) (tap : TapNets) (instruction : InstrNets) (bypass : NetId) (ident : Option NetId) (boundary tdo : NetId)
    (given : ℕ → Sig) (events : List PinEvent) (moment : ℕ → Moment) → IsWellFormed N
    → HasCells N (tdo_cells first number tap instruction bypass ident boundary tdo) → IsRun N given events moment
    → (L : TestLogic) (levels : ℕ → Levels) (captured : ℕ → List Sig) (machine : ℕ → Machine) → IsHistory L levels captured (length events) machine
    → ((t : ℕ) → t ≤ length events → Presents tap instruction bypass ident boundary (levels t) (machine t).state (selected_register (in_effect L (machine t)))
    (bit_of (selected_register (in_effect L (machine t))) (machine t)) (first_bit (machine t).shift) (moment t))
    → (t : ℕ) → t ≤ length events → tdo_given_by first (moment t) ≡ (machine t).tdo
run_at by N first number tap instruction bypass ident boundary tdo given events moment formed has run L levels captured machine history presents =
    all_along by.moments N given events moment run (λ t. tdo_given_by first (moment t) ≡ (machine t).tdo) base more
  where
    base : tdo_given_by first (moment 0) ≡ (machine 0).tdo
    base = start_at by N first number tap instruction bypass ident boundary tdo given (levels 0) (moment 0) formed has run.start (presents 0 (omega arith)).carries history.low
        ∙ sym (ap (λ (x : Machine). x.tdo) history.start)

    more : (t : ℕ) → suc t ≤ length events → (event : PinEvent) → IsSettled N (moment t).pins (moment t).state (moment t).value → IsStep N event (moment t) (moment (suc t))
        → tdo_given_by first (moment t) ≡ (machine t).tdo → tdo_given_by first (moment (suc t)) ≡ (machine (suc t)).tdo
    more t below event settled step held =
        let selected : Register = selected_register (in_effect L (machine t)) in
        step_at by N first number tap instruction bypass ident boundary tdo event (machine t).state selected (bit_of selected (machine t)) (first_bit (machine t).shift)
        (levels t) (levels (suc t)) (moment t) (moment (suc t)) formed has settled step (presents t (omega arith)) (presents (suc t) below).carries
        ∙ ap (λ (x : PinSig). bit_after (levels t) (levels (suc t)) HighZ x (tdo_after (machine t).state (bit_of selected (machine t)) (first_bit (machine t).shift)) x) held
        ∙ sym (ap (λ (x : Machine). x.tdo) (history.steps t below) ∙ (by_register L (levels t) (levels (suc t)) (captured t) (machine t)).tdo)

pub tdo_follows : PartLaws → TdoFollows
tdo_follows by = λ first number tap instruction bypass ident boundary tdo. record {
  start = λ N given levels m formed has start carried low. start_at by N first number tap instruction bypass ident boundary tdo given levels m formed has start carried low;
  step = λ N event w selected selected_bit instruction_bit before after m m' formed has settled step presents carried'.
      step_at by N first number tap instruction bypass ident boundary tdo event w selected selected_bit instruction_bit before after m m' formed has settled step presents carried';
  reads = λ N m formed has out. reads_at by N first number tap instruction bypass ident boundary tdo m formed has out;
  whole_run = λ N given events moment formed has run L levels captured machine history presents.
      run_at by N first number tap instruction bypass ident boundary tdo given events moment formed has run L levels captured machine history presents;
}

-- In Test-Logic-Reset.

let_go : (a b c : Bool) (kept : Sig) → edge_of a b ≡ Some Fall → reset_or ToZero (bit c) (if is_edge Fall (bit a) (bit b) then sig_or Zero Zero else kept) ≡ Zero
let_go true false true kept e = refl
let_go true false false kept e = refl
let_go true true c kept e = absurd (cc)
let_go false true c kept e = absurd (let bad : Some Rise ≡ Some Fall = e in cc)
let_go false false c kept e = absurd (cc)

pub lets_go : PartLaws → TdoLetsGo
lets_go by = λ first number tap instruction bypass ident boundary tdo N event before after m m' formed has settled step carries carries' shows falls.
    let s = steps_of by N first number tap instruction bypass ident boundary tdo event m m' formed has settled step in
    let dr : m.value tap.shift_dr.0 ≡ Zero = shows.shift_dr in
    let ir : m.value tap.shift_ir.0 ≡ Zero = shows.shift_ir in
    let off : m'.value (first + 1) ≡ Zero
    = rw (s.enable_next, s.enable_before, dr, ir, carries'.reset, carries.clock, carries'.clock) (let_go before.tck after.tck after.trst (m.value (first + 1)) falls) in
    ap (λ (x : Sig). drive (m'.value first) x) off
