-- A run of the chip by a program is a run of the test logic by its lines, which meets them.
use Rattle.std.proofs.Common.{◌≡◌, ℕ, suc, ◌+◌, Bool, true, false, List, [], ◌∷◌, slice_get, Some, refl, sym, ap, ◌∙◌, subst, inl, inr, arith}
use Rattle.std.specs.Prelude.{⊤}
use Rattle.signal_values.specs.declared.Sig.{Sig}
use Rattle.signal_values.specs.declared.PinSig.{PinSig}
use Rattle.signal_values.specs.Values.{bit, pin_of}
use Rattle.netlist_model.specs.Lists.{NetlistView}
use Rattle.netlist_model.specs.Formed.{IsWellFormed}
use Rattle.netlist_model.specs.Ports.{BitHasDirection}
use Rattle.test_logic.specs.declared.Levels.{Levels}
use Rattle.test_logic.specs.declared.TapInput.{TapInput}
use Rattle.test_logic.specs.declared.TapInput.TheVariants.{Tck, Tms, Tdi, Trst}
use Rattle.test_logic.specs.Machine.{machine_step, test_logic_of}
use Rattle.bsdl_device.specs.declared.values.Device.{Device}
use Rattle.wrapped_chip.specs.ChipRuns.{ChipMoment, ChipEvent, at_pin, at_tap, levels_after, IsChipStep, IsChipRun}
use Rattle.wrapped_chip.specs.Suits.{Suits}
use Rattle.scan_vectors.specs.declared.lines.Line.{Line}
use Rattle.scan_vectors.specs.declared.lines.Line.TheVariants.{Start, Set, Expect}
use Rattle.scan_programs.specs.Program.{program_of}
use Rattle.scan_programs.specs.Met.{with_level, IsStart, IsStep, IsSet, IsRunFrom, Reads, AreMetFrom, ProgramsAreMet}
use Rattle.program_runs.specs.Around.{StandsAround}
use Rattle.program_runs.specs.Played.{IsTapSet, AreSets}
use Rattle.program_runs.specs.Readings.{AreReadFrom, ChipReads}
use Rattle.program_runs.specs.Laws.{ChipMeetsProgram}
use Rattle.program_runs.proofs.Cells.{CapturesSame, captured_at_bit, captured_at_none, captured_same}
use Rattle.program_runs.proofs.Sides.{LeavesPins, outside_is}
use Rattle.program_runs.proofs.Bits.{moment_of, bit_reads}

-- what stands throughout
record Stands (B : Device) (N : NetlistView) : Type 0 where
  directed : BitHasDirection
  formed : IsWellFormed N
  suits : Suits B N
  around : StandsAround B N

captures : (B : Device) (N : NetlistView) (w : ChipMoment) → Stands B N → LeavesPins B N w → CapturesSame B N w
captures B N w is leaves number row there =
    elim (is.around.cells number row there) [
      | inl stands ↦ captured_at_bit B N w number row stands there (outside_is is.directed B N w is.formed is.suits leaves number row stands)
      | inr none ↦ captured_at_none B N w number row none there
    ]

-- Steps of the chip.

-- from this moment on the chip takes these events
abbrev StepsFrom : Device → NetlistView → (ℕ → ChipMoment) → ℕ → List ChipEvent → Type 0
StepsFrom B N chip t [] = ⊤
StepsFrom B N chip t (event ∷ events) = IsChipStep B N event (chip t) (chip (suc t)) × StepsFrom B N chip (suc t) events

steps_from : (B : Device) (N : NetlistView) (given : ℕ → Sig) (events : List ChipEvent) (chip : ℕ → ChipMoment) → IsChipRun B N given events chip → (t : ℕ) (rest : List ChipEvent)
    → ((k : ℕ) (event : ChipEvent) → slice_get rest k ≡ Some event → slice_get events (t + k) ≡ Some event) → StepsFrom B N chip t rest
steps_from B N given events chip run t [] there = tt
steps_from B N given events chip run t (event ∷ rest) there = (
  run.steps t event (ap (slice_get events) (let e : t ≡ t + 0 = omega arith in e) ∙ there 0 event refl),
  steps_from B N given events chip run (suc t) rest (λ k next at. ap (slice_get events) (let e : suc t + k ≡ t + suc k = omega arith in e) ∙ there (suc k) next at),
)

pins_stay : (B : Device) (N : NetlistView) (input : TapInput) (level : Bool) (w w' : ChipMoment) → IsChipStep B N (at_tap input level) w w' → LeavesPins B N w → LeavesPins B N w'
pins_stay B N input level w w' step leaves = record {
  inputs = λ net r side row. step.pins net ∙ leaves.inputs net r side row;
  inouts = λ net side. step.pins net ∙ leaves.inouts net side;
}

-- A set is a step of the test logic.

levels_same : (levels : Levels) (input : TapInput) (level : Bool) → levels_after levels (at_tap input level) ≡ with_level levels input level
levels_same levels Tck level = refl
levels_same levels Tms level = refl
levels_same levels Tdi level = refl
levels_same levels Trst level = refl

step_is : (B : Device) (N : NetlistView) (input : TapInput) (level : Bool) (w w' : ChipMoment) → Stands B N → LeavesPins B N w → IsChipStep B N (at_tap input level) w w'
    → IsStep B input level (moment_of B N w) (moment_of B N w')
step_is B N input level w w' is leaves step = record {
  levels = step.levels ∙ levels_same w.levels input level;
  machine = step.machine
      ∙ ap (λ (bits : List Sig). machine_step (test_logic_of B) w.levels w'.levels bits w.machine) (sym (captured_same B N w (captures B N w is leaves)));
}

level_same : (level other : Bool) → pin_of (bit level) ≡ pin_of (bit other) → level ≡ other
level_same true true e = refl
level_same true false e = absurd (cc)
level_same false true e = absurd (cc)
level_same false false e = refl

set_is : (B : Device) (N : NetlistView) (word : List ℕ) (value : PinSig) (input : TapInput) (level : Bool) (w w' : ChipMoment) → Stands B N → LeavesPins B N w → IsTapSet B word value input level
    → IsChipStep B N (at_tap input level) w w' → IsSet B word value (moment_of B N w) (moment_of B N w')
set_is B N word value input level w w' is leaves set step other height named valued =
    let same : input ≡ other = is.around.names input other (sym set.word_is ∙ named) in
    let alike : level ≡ height = level_same level height (sym set.value_is ∙ valued) in
    subst (λ (i : TapInput). IsStep B i height (moment_of B N w) (moment_of B N w')) same
    (subst (λ (b : Bool). IsStep B input b (moment_of B N w) (moment_of B N w')) alike (step_is B N input level w w' is leaves step))

-- Lines.

run_from : (B : Device) (N : NetlistView) (chip : ℕ → ChipMoment) → Stands B N → (lines : List Line) (rest : List ChipEvent) (t : ℕ) → AreSets B lines rest → StepsFrom B N chip t rest
    → LeavesPins B N (chip t) → IsRunFrom B (λ n. moment_of B N (chip n)) t lines
run_from B N chip is [] rest t sets steps leaves = tt
run_from B N chip is (Start word value ∷ lines) rest t sets steps leaves = run_from B N chip is lines rest t sets steps leaves
run_from B N chip is (Expect word value ∷ lines) rest t sets steps leaves = run_from B N chip is lines rest t sets steps leaves
run_from B N chip is (Set word value ∷ lines) [] t sets steps leaves = absurd sets
run_from B N chip is (Set word value ∷ lines) (at_pin event ∷ rest) t sets steps leaves = absurd sets
run_from B N chip is (Set word value ∷ lines) (at_tap input level ∷ rest) t sets steps leaves = (
  set_is B N word value input level (chip t) (chip (suc t)) is leaves sets.0 steps.0,
  run_from B N chip is lines rest (suc t) sets.1 steps.1 (pins_stay B N input level (chip t) (chip (suc t)) steps.0 leaves),
)

one_reads : (B : Device) (N : NetlistView) (w : ChipMoment) (word : List ℕ) (value : PinSig) → Stands B N → LeavesPins B N w → Reads B (moment_of B N w) word value → ChipReads B N w word value
one_reads B N w word value is leaves (inl tdo) = inl (record { named = tdo.named; reads = tdo.reads })
one_reads B N w word value is leaves (inr reads) = inr (bit_reads is.directed B N w word value is.formed is.suits is.around leaves reads)

read_from : (B : Device) (N : NetlistView) (chip : ℕ → ChipMoment) → Stands B N → (lines : List Line) (rest : List ChipEvent) (t : ℕ) → AreSets B lines rest → StepsFrom B N chip t rest
    → LeavesPins B N (chip t) → AreMetFrom B (λ n. moment_of B N (chip n)) t lines → AreReadFrom (λ n. ChipReads B N (chip n)) t lines
read_from B N chip is [] rest t sets steps leaves met = tt
read_from B N chip is (Start word value ∷ lines) rest t sets steps leaves met = read_from B N chip is lines rest t sets steps leaves met
read_from B N chip is (Expect word value ∷ lines) rest t sets steps leaves met =
    (one_reads B N (chip t) word value is leaves met.0, read_from B N chip is lines rest t sets steps leaves met.1)
read_from B N chip is (Set word value ∷ lines) [] t sets steps leaves met = absurd sets
read_from B N chip is (Set word value ∷ lines) (at_pin event ∷ rest) t sets steps leaves met = absurd sets
read_from B N chip is (Set word value ∷ lines) (at_tap input level ∷ rest) t sets steps leaves met =
    read_from B N chip is lines rest (suc t) sets.1 steps.1 (pins_stay B N input level (chip t) (chip (suc t)) steps.0 leaves) met

pub chip_meets_program : ProgramsAreMet → BitHasDirection → ChipMeetsProgram
chip_meets_program meets directed B N formed suits around given events chip plays =
    let is : Stands B N = record { directed = directed; formed = formed; suits = suits; around = around } in
    let leaves : LeavesPins B N (chip 0) = record { inputs = plays.start.inputs; inouts = plays.start.inouts } in
    let steps = steps_from B N given events chip plays.run 0 events (λ k event at. ap (slice_get events) (let e : 0 + k ≡ k = omega arith in e) ∙ at) in
    let start : IsStart B (moment_of B N (chip 0)) = record { levels = plays.start.levels; machine = plays.run.start.machine } in
    read_from B N chip is (program_of B) events 0 plays.sets steps leaves
    (meets B (λ n. moment_of B N (chip n)) start (run_from B N chip is (program_of B) events 0 plays.sets steps leaves))
