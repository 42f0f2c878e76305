-- A bit that is held loads and keeps.
use Rattle.std.proofs.Common.{◌≡◌, ℕ, ◌+◌, Bool, true, false, refl, arith}
use Rattle.std.specs.Prelude.{if◌then◌else◌}
use Rattle.signal_values.specs.declared.Sig.{Sig}
use Rattle.signal_values.specs.Values.{bit, sig_mux}
use Rattle.signal_values.proofs.Laws.{mux-one, mux-zero}
use Rattle.cell_library.specs.declared.Edge.TheVariants.{Fall}
use Rattle.cell_library.specs.declared.ResetTo.{ResetTo}
use Rattle.cell_library.specs.declared.ResetTo.TheVariants.{Zero as ToZero, One as ToOne}
use Rattle.cell_library.specs.Flops.{is_edge, reset_or}
use Rattle.netlist_model.specs.declared.Feed.{Feed}
use Rattle.netlist_model.specs.Lists.{NetlistView}
use Rattle.netlist_model.specs.Settled.{feed_value, IsSettled}
use Rattle.netlist_model.specs.Formed.{IsWellFormed}
use Rattle.netlist_model.specs.Contained.{HasCells}
use Rattle.netlist_model.specs.Runs.{Moment, PinEvent, IsStart, IsStep}
use Rattle.gate_parts.specs.Laws.{FlopStarts, FlopSteps}
use Rattle.gate_parts.specs.PartLaws.{ContainedPartMeets, ContainedPartHasFlops}
use Rattle.tap_gates.specs.test_logic.declared.Levels.{Levels}
use Rattle.tap_gates.specs.test_logic.Machine.{edge_of}
use Rattle.register_gates.specs.declared.bits.Holding.{Holding}
use Rattle.register_gates.specs.declared.bits.TheConstants.{CLEARED_BIT, PRESET_BIT}
use Rattle.register_gates.specs.Bits.{held_bit_given, held_bit_cells}
use Rattle.register_gates.specs.BitsLaws.{Carries, on_edge, bit_after, HeldBitsFollow}

-- what TRST at 0 makes of the bit
abbrev reset_of : Bool → ResetTo
reset_of true = ToOne
reset_of false = ToZero

loaded_or : (loads : Bool) (loaded kept : Sig) → sig_mux (bit loads) kept loaded ≡ (if loads then loaded else kept)
loaded_or true loaded kept = mux-one kept loaded
loaded_or false loaded kept = mux-zero kept loaded

-- the flip-flop, by the levels
fallen : (preset clock clock' reset' : Bool) (next kept : Sig)
    → reset_or (reset_of preset) (bit reset') (if is_edge Fall (bit clock) (bit clock') then next else kept) ≡ (if reset' then on_edge (edge_of clock clock') kept next kept else bit preset)
fallen true clock clock' false next kept = refl
fallen true true true true next kept = refl
fallen true true false true next kept = refl
fallen true false true true next kept = refl
fallen true false false true next kept = refl
fallen false clock clock' false next kept = refl
fallen false true true true next kept = refl
fallen false true false true next kept = refl
fallen false false true true next kept = refl
fallen false false false true next kept = refl

bit_law : (preset loads : Bool) (before after : Levels) (loaded kept : Sig)
    → reset_or (reset_of preset) (bit after.trst) (if is_edge Fall (bit before.tck) (bit after.tck) then sig_mux (bit loads) kept loaded else kept)
    ≡ bit_after before after (bit preset) kept (if loads then loaded else kept) kept
bit_law preset loads before after loaded kept = rw (loaded_or loads loaded kept) (fallen preset before.tck after.tck after.trst _ kept)

start_at : ContainedPartHasFlops → FlopStarts → (N : NetlistView) (first number : ℕ) (by : Holding) (preset : Bool) (loaded : Feed) (given : ℕ → Sig) (levels : Levels) (m : Moment)
    → IsWellFormed N → HasCells N (held_bit_cells first number by preset loaded) → IsStart N given m → Carries by.tck by.trst levels m → levels.trst ≡ false → m.value first ≡ bit preset
start_at flops starts N first number by true loaded given levels m formed has start carried low =
    let z : first + 0 ≡ first = omega arith in
    let on = flops N PRESET_BIT (held_bit_given by loaded) first number formed has 0 _ _ refl refl in
    let h : m.value (first + 0) ≡ reset_or ToOne (m.value by.trst.0) (given on.has.number) = starts N _ _ (first + 0) on given m start in
    let h' : m.value first ≡ reset_or ToOne (m.value by.trst.0) (given on.has.number) = rw z at h in
    rw (h', carried.reset, low) refl
start_at flops starts N first number by false loaded given levels m formed has start carried low =
    let z : first + 0 ≡ first = omega arith in
    let on = flops N CLEARED_BIT (held_bit_given by loaded) first number formed has 0 _ _ refl refl in
    let h : m.value (first + 0) ≡ reset_or ToZero (m.value by.trst.0) (given on.has.number) = starts N _ _ (first + 0) on given m start in
    let h' : m.value first ≡ reset_or ToZero (m.value by.trst.0) (given on.has.number) = rw z at h in
    rw (h', carried.reset, low) refl

-- what the flip-flop and the multiplexer before it do
record Steps (preset : Bool) (first : ℕ) (by : Holding) (loaded : Feed) (m m' : Moment) : Type 0 where
  next : m'.value first ≡ reset_or (reset_of preset) (m'.value by.trst.0) (if is_edge Fall (m.value by.tck.0) (m'.value by.tck.0) then m.value (first + 1) else m.value first)
  before : m.value (first + 1) ≡ sig_mux (m.value by.load.0) (m.value first) (feed_value m.value loaded)

steps_of : ContainedPartMeets → ContainedPartHasFlops → FlopSteps → (N : NetlistView) (first number : ℕ) (by : Holding) (preset : Bool) (loaded : Feed) (event : PinEvent) (m m' : Moment)
    → IsWellFormed N → HasCells N (held_bit_cells first number by preset loaded) → IsSettled N m.pins m.state m.value → IsStep N event m m' → Steps preset first by loaded m m'
steps_of meets flops steps N first number by true loaded event m m' formed has settled step =
    let z : first + 0 ≡ first = omega arith in
    let given = held_bit_given by loaded in
    let on = flops N PRESET_BIT given first number formed has 0 _ _ refl refl in
    let f : m'.value (first + 0) ≡ reset_or ToOne (m'.value by.trst.0) (if is_edge Fall (m.value by.tck.0) (m'.value by.tck.0) then m.value (first + 1) else m.value (first + 0))
    = steps N _ _ (first + 0) on event m m' settled step in
    let e : m.value (first + 1) ≡ sig_mux (m.value by.load.0) (m.value (first + 0)) (feed_value m.value loaded) = (meets N PRESET_BIT given first number formed has _ _ _ settled 1 _ refl refl).1 in
    record { next = rw z at f; before = rw z at e }
steps_of meets flops steps N first number by false loaded event m m' formed has settled step =
    let z : first + 0 ≡ first = omega arith in
    let given = held_bit_given by loaded in
    let on = flops N CLEARED_BIT given first number formed has 0 _ _ refl refl in
    let f : m'.value (first + 0) ≡ reset_or ToZero (m'.value by.trst.0) (if is_edge Fall (m.value by.tck.0) (m'.value by.tck.0) then m.value (first + 1) else m.value (first + 0))
    = steps N _ _ (first + 0) on event m m' settled step in
    let e : m.value (first + 1) ≡ sig_mux (m.value by.load.0) (m.value (first + 0)) (feed_value m.value loaded) = (meets N CLEARED_BIT given first number formed has _ _ _ settled 1 _ refl refl).1 in
    record { next = rw z at f; before = rw z at e }

step_at : ContainedPartMeets → ContainedPartHasFlops → FlopSteps → (N : NetlistView) (first number : ℕ) (by : Holding) (preset : Bool) (loaded : Feed) (event : PinEvent) (loads : Bool)
    (before after : Levels) (m m' : Moment) → IsWellFormed N → HasCells N (held_bit_cells first number by preset loaded) → IsSettled N m.pins m.state m.value → IsStep N event m m'
    → Carries by.tck by.trst before m → Carries by.tck by.trst after m' → m.value by.load.0 ≡ bit loads
    → m'.value first ≡ bit_after before after (bit preset) (m.value first) (if loads then feed_value m.value loaded else m.value first) (m.value first)
step_at meets flops steps N first number by preset loaded event loads before after m m' formed has settled step carried carried' load =
    let s = steps_of meets flops steps N first number by preset loaded event m m' formed has settled step in
    rw (s.next, s.before, load, carried.clock, carried'.clock, carried'.reset) (bit_law preset loads before after _ _)

pub held_bits : ContainedPartMeets → ContainedPartHasFlops → FlopStarts → FlopSteps → HeldBitsFollow
held_bits meets flops starts steps = λ first number by preset loaded. record {
  start = λ N given levels m formed has start carried low. start_at flops starts N first number by preset loaded given levels m formed has start carried low;
  step = λ N event loads before after m m' formed has settled step carried carried' load.
      step_at meets flops steps N first number by preset loaded event loads before after m m' formed has settled step carried carried' load;
}
