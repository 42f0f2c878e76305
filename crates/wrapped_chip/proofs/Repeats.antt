-- In a run of the wrapped chip an event that repeats what is there changes nothing.
use Rattle.std.proofs.Common.{◌≡◌, ℕ, zero, suc, ◌≤◌, ◌<◌, Bool, true, false, List, length, refl, ap, sym, ◌∙◌, inl, inr, arith}
use Rattle.std.specs.Prelude.{Some}
use Rattle.netlist_model.proofs.Repeats.{rest_of}
use Rattle.signal_values.specs.declared.Sig.{Sig}
use Rattle.cell_library.specs.Gates.{flop_of}
use Rattle.cell_library.specs.declared.FlopKind.{FlopKind}
use Rattle.cell_library.specs.Flops.{flop_start}
use Rattle.netlist_model.specs.Lists.{CellView, NetlistView, cell_at}
use Rattle.netlist_model.specs.Settled.{feed_values}
use Rattle.netlist_model.specs.Formed.{IsWellFormed}
use Rattle.netlist_model.proofs.Flops.{clock_same, reset_same, flop_next-same}
use Rattle.netlist_model.proofs.Moments.{pins_after-cases}
use Rattle.test_logic.specs.bsdl_device.declared.values.Device.{Device}
use Rattle.test_logic.specs.declared.Levels.{Levels}
use Rattle.test_logic.specs.declared.TapInput.TheVariants.{Tck, Tms, Tdi, Trst}
use Rattle.test_logic.specs.Machine.{TestLogic, Machine, reset, edge_of, clocked, step_under, machine_step, test_logic_of}
use Rattle.wrapped_chip.specs.Cells.{captured}
use Rattle.wrapped_chip.specs.ChipRuns.{ChipMoment, ChipEvent, at_pin, at_tap, levels_after, chip_pins_after, IsChipSettled, IsChipStep, IsChipRun}
use Rattle.wrapped_chip.specs.Laws.{IsRepeat, SameChipMoment, ChipRepeats}
use Rattle.wrapped_chip.proofs.Chips.{event_at, moment_same}
use Rattle.wrapped_chip.specs.Home.{IsChipRunFrom}
use Rattle.wrapped_chip.proofs.Known.{from_reset, run_settled}
use Rattle.std.proofs.lemmas.Option.{slice_get_within}

-- while TRST is 0 the test logic is in reset
run_reset : (B : Device) (N : NetlistView) (given : ℕ → Sig) (events : List ChipEvent) (chip : ℕ → ChipMoment) → IsChipRun B N given events chip
    → (t : ℕ) → t ≤ length events → (chip t).levels.trst ≡ false → (chip t).machine ≡ reset (test_logic_of B)
run_reset B N given events chip run zero h low = run.start.machine
run_reset B N given events chip run (suc t) h low =
    let e = event_at events t (omega arith) in
    let w = chip t in
    (run.steps t e.0 e.1).machine ∙ ap (λ high. step_under high (test_logic_of B) w.levels (chip (suc t)).levels (captured B N w.machine w.pins w.value) w.machine) low

-- the flip-flops of a moment are cleared or preset where their controls are 0
abbrev pub FlopsRest : NetlistView → ChipMoment → Type 0
FlopsRest N w = (i : ℕ) (cell : CellView) (kind : FlopKind) → cell_at N i ≡ Some cell → flop_of N.library cell.kind ≡ Some kind
    → w.state i ≡ flop_start kind (feed_values w.value cell.feeds) (w.state i)

pub rests_from : (begun : Machine) (B : Device) (N : NetlistView) (given : ℕ → Sig) (events : List ChipEvent) (chip : ℕ → ChipMoment) → IsChipRunFrom begun B N given events chip
    → (t : ℕ) → t ≤ length events → FlopsRest N (chip t)
rests_from begun B N given events chip run zero h i cell kind live flop = rest_of kind.reset _ _ _ (run.flops.each i cell kind live flop)
rests_from begun B N given events chip run (suc t) h i cell kind live flop =
    let e = event_at events t (omega arith) in
    rest_of kind.reset _ _ _ ((run.steps t e.0 e.1).flops.each i cell kind live flop)

run_rests : (B : Device) (N : NetlistView) (given : ℕ → Sig) (events : List ChipEvent) (chip : ℕ → ChipMoment) → IsChipRun B N given events chip
    → (t : ℕ) → t ≤ length events → FlopsRest N (chip t)
run_rests B N given events chip run t h = rests_from (reset (test_logic_of B)) B N given events chip (from_reset B N given events chip run) t h

repeat_levels : (event : ChipEvent) (w : ChipMoment) → IsRepeat event w → levels_after w.levels event ≡ w.levels
repeat_levels (at_pin event) w e = refl
repeat_levels (at_tap Tck level) w e = ap (λ x. let levels : Levels = record w.levels { tck = x } in levels) e
repeat_levels (at_tap Tms level) w e = ap (λ x. let levels : Levels = record w.levels { tms = x } in levels) e
repeat_levels (at_tap Tdi level) w e = ap (λ x. let levels : Levels = record w.levels { tdi = x } in levels) e
repeat_levels (at_tap Trst level) w e = ap (λ x. let levels : Levels = record w.levels { trst = x } in levels) e

repeat_pins : (event : ChipEvent) (w : ChipMoment) (net : ℕ) → IsRepeat event w → chip_pins_after w.pins event net ≡ w.pins net
repeat_pins (at_pin event) w net repeats =
    elim (pins_after-cases w.pins event net) [
      | inl e ↦ e.1 ∙ repeats ∙ ap w.pins (sym e.0)
      | inr e ↦ e
    ]
repeat_pins (at_tap input level) w net repeats = refl

-- without an edge the test logic stays as it is, in reset too
no_edge : (L : TestLogic) (tck tms : Bool) (tdi : Sig) (taken : List Sig) (m : Machine) → clocked L (edge_of tck tck) tms tdi taken m ≡ m
no_edge L true tms tdi taken m = refl
no_edge L false tms tdi taken m = refl

stays_under : (L : TestLogic) (levels : Levels) (taken : List Sig) (m : Machine) (high : Bool) → (high ≡ false → m ≡ reset L) → step_under high L levels levels taken m ≡ m
stays_under L levels taken m true low = no_edge L levels.tck levels.tms _ taken m
stays_under L levels taken m false low = sym (low refl)

repeat_step : (B : Device) (N : NetlistView) (event : ChipEvent) (w w' : ChipMoment) → IsWellFormed N → IsChipSettled B N w → FlopsRest N w
    → (w.levels.trst ≡ false → w.machine ≡ reset (test_logic_of B)) → IsChipStep B N event w w' → IsRepeat event w → SameChipMoment N w w'
repeat_step B N event w w' formed settled rests low step repeats =
    let L = test_logic_of B in
    let levels : w.levels ≡ w'.levels = sym (step.levels ∙ repeat_levels event w repeats) in
    let pins : (net : ℕ) → w.pins net ≡ w'.pins net = λ net. sym (step.pins net ∙ repeat_pins event w net repeats) in
    let taken = captured B N w.machine w.pins w.value in
    let machine : w.machine ≡ w'.machine
    = sym (step.machine ∙ ap (λ l. machine_step L w.levels l taken w.machine) (sym levels) ∙ stays_under L w.levels taken w.machine w.levels.trst low) in
    moment_same B N w w' formed levels machine pins
    (λ controls. λ i cell kind live flop. sym (
    step.flops.each i cell kind live flop
    ∙ flop_next-same kind (feed_values w.value cell.feeds) (feed_values w'.value cell.feeds) (w.state i)
    (clock_same N i cell kind w'.value w.value live flop (λ net c. sym (controls net c))) (reset_same N i cell kind w'.value w.value live flop (λ net c. sym (controls net c)))
    (rests i cell kind live flop)))
    settled step.settled

pub chip_repeats : ChipRepeats
chip_repeats B N given events chip formed run t event at repeats =
    let h : t < length events = slice_get_within events t event at in
    let within : t ≤ length events = omega arith in
    repeat_step B N event (chip t) (chip (suc t)) formed (run_settled B N given events chip run t within) (run_rests B N given events chip run t within)
    (run_reset B N given events chip run t within) (run.steps t event at) repeats
