-- The latched bits are those of the test logic.
use Rattle.std.proofs.Common.{◌≡◌, ℕ, ◌+◌, ◌*◌, Bool, true, false, List, [], ◌∷◌, length, refl, sym, ap, ◌∙◌, arith}
use Rattle.std.specs.Prelude.{Option, Some, None, ◌||◌, if◌then◌else◌}
use Rattle.signal_values.specs.declared.Sig.{Sig}
use Rattle.signal_values.specs.Values.{bit, sig_mux}
use Rattle.signal_values.proofs.Laws.{mux-one, mux-zero}
use Rattle.cell_library.specs.declared.Edge.{Edge}
use Rattle.cell_library.specs.declared.Edge.TheVariants.{Rise, Fall}
use Rattle.netlist_model.specs.declared.Feed.{Feed}
use Rattle.netlist_model.specs.declared.Feed.TheVariants.{Net}
use Rattle.netlist_model.specs.Lists.{NetlistView}
use Rattle.netlist_model.specs.Settled.{IsSettled}
use Rattle.netlist_model.specs.Formed.{IsWellFormed}
use Rattle.netlist_model.specs.Contained.{HasCells}
use Rattle.netlist_model.specs.Runs.{Moment, PinEvent, IsStart, IsStep}
use Rattle.netlist_model.specs.LawsContained.{ContainedParts}
use Rattle.gate_parts.specs.Parts.{part_cells}
use Rattle.gate_parts.specs.PartLaws.{ContainedPartMeets}
use Rattle.test_logic.specs.declared.Levels.{Levels}
use Rattle.test_logic.specs.declared.TapState.{TapState}
use Rattle.test_logic.specs.declared.TapState.TheVariants.{TestLogicReset, RunTestIdle, SelectDrScan, CaptureDr, ShiftDr, Exit1Dr, PauseDr, Exit2Dr, UpdateDr, SelectIrScan, CaptureIr, ShiftIr, Exit1Ir, PauseIr, Exit2Ir, UpdateIr}
use Rattle.test_logic.specs.Machine.{edge_of}
use Rattle.test_logic.specs.Registers.{latched_after}
use Rattle.register_gates.specs.Bits.{held_bit_cells}
use Rattle.register_gates.specs.Chains.{chain_values}
use Rattle.register_gates.specs.BitsLaws.{Carries, on_edge, bit_after, HeldBitsFollow}
use Rattle.instruction_gates.specs.declared.latches.Latching.{Latching}
use Rattle.instruction_gates.specs.declared.latches.TheConstants.{LOADED}
use Rattle.instruction_gates.specs.Rows.{is_one, bits_in}
use Rattle.instruction_gates.specs.Latches.{holding_of, loaded_given, latch_cells, latches_cells, latch_values, is_reset, is_update, Latches, LatchesFollow}

-- the laws of what they are made of
pub record PartLaws : Type 0 where
  pub parts : ContainedParts
  pub meets : ContainedPartMeets
  pub held : HeldBitsFollow

-- one bit of what a falling edge latches
abbrev latched_bit : Sig → TapState → Sig → Sig → Sig
latched_bit reset UpdateIr shift kept = shift
latched_bit reset TestLogicReset shift kept = reset
latched_bit reset _ shift kept = kept

loaded_is : (w : TapState) (reset shift kept : Sig) → (if (is_update w || is_reset w) then sig_mux (bit (is_reset w)) shift reset else kept) ≡ latched_bit reset w shift kept
loaded_is TestLogicReset reset shift kept = mux-one shift reset
loaded_is RunTestIdle reset shift kept = refl
loaded_is SelectDrScan reset shift kept = refl
loaded_is CaptureDr reset shift kept = refl
loaded_is ShiftDr reset shift kept = refl
loaded_is Exit1Dr reset shift kept = refl
loaded_is PauseDr reset shift kept = refl
loaded_is Exit2Dr reset shift kept = refl
loaded_is UpdateDr reset shift kept = refl
loaded_is SelectIrScan reset shift kept = refl
loaded_is CaptureIr reset shift kept = refl
loaded_is ShiftIr reset shift kept = refl
loaded_is Exit1Ir reset shift kept = refl
loaded_is PauseIr reset shift kept = refl
loaded_is Exit2Ir reset shift kept = refl
loaded_is UpdateIr reset shift kept = mux-zero shift reset

latched_cons : (w : TapState) (r s k : Sig) (rs ss ks : List Sig) → latched_bit r w s k ∷ latched_after rs w ss ks ≡ latched_after (r ∷ rs) w (s ∷ ss) (k ∷ ks)
latched_cons TestLogicReset r s k rs ss ks = refl
latched_cons RunTestIdle r s k rs ss ks = refl
latched_cons SelectDrScan r s k rs ss ks = refl
latched_cons CaptureDr r s k rs ss ks = refl
latched_cons ShiftDr r s k rs ss ks = refl
latched_cons Exit1Dr r s k rs ss ks = refl
latched_cons PauseDr r s k rs ss ks = refl
latched_cons Exit2Dr r s k rs ss ks = refl
latched_cons UpdateDr r s k rs ss ks = refl
latched_cons SelectIrScan r s k rs ss ks = refl
latched_cons CaptureIr r s k rs ss ks = refl
latched_cons ShiftIr r s k rs ss ks = refl
latched_cons Exit1Ir r s k rs ss ks = refl
latched_cons PauseIr r s k rs ss ks = refl
latched_cons Exit2Ir r s k rs ss ks = refl
latched_cons UpdateIr r s k rs ss ks = refl

latched_same : (w : TapState) (xs : List Sig) → latched_after xs w xs xs ≡ xs
latched_same TestLogicReset xs = refl
latched_same RunTestIdle xs = refl
latched_same SelectDrScan xs = refl
latched_same CaptureDr xs = refl
latched_same ShiftDr xs = refl
latched_same Exit1Dr xs = refl
latched_same PauseDr xs = refl
latched_same Exit2Dr xs = refl
latched_same UpdateDr xs = refl
latched_same SelectIrScan xs = refl
latched_same CaptureIr xs = refl
latched_same ShiftIr xs = refl
latched_same Exit1Ir xs = refl
latched_same PauseIr xs = refl
latched_same Exit2Ir xs = refl
latched_same UpdateIr xs = refl

edge_same : (edge : Option Edge) (c : Bool) (xs : List Sig) → (if c then on_edge edge xs xs xs else xs) ≡ xs
edge_same edge false xs = refl
edge_same None true xs = refl
edge_same (Some Rise) true xs = refl
edge_same (Some Fall) true xs = refl

after_cons : (edge : Option Edge) (c : Bool) (r x y k : Sig) (rs xs ys ks : List Sig)
    → (if c then on_edge edge x y k else r) ∷ (if c then on_edge edge xs ys ks else rs) ≡ (if c then on_edge edge (x ∷ xs) (y ∷ ys) (k ∷ ks) else r ∷ rs)
after_cons edge false r x y k rs xs ys ks = refl
after_cons None true r x y k rs xs ys ks = refl
after_cons (Some Rise) true r x y k rs xs ys ks = refl
after_cons (Some Fall) true r x y k rs xs ys ks = refl

-- the cells of a row apart: the rest, what a bit loads, and the bit
record Apart (N : NetlistView) (first number : ℕ) (by : Latching) (shifts : ℕ) (preset : Feed) (rest : List Feed) : Type 0 where
  others : HasCells N (latches_cells first number by shifts rest)
  loads : HasCells N (part_cells LOADED (loaded_given by (shifts + 3 * length rest) preset) (first + 3 * length rest) (number + 3 * length rest))
  holds : HasCells N (held_bit_cells (first + 3 * length rest + 1) (number + 3 * length rest + 1) (holding_of by) (is_one preset) (Net (record { 0 = first + 3 * length rest })))

apart : PartLaws → (N : NetlistView) (first number : ℕ) (by : Latching) (shifts : ℕ) (preset : Feed) (rest : List Feed) → HasCells N (latches_cells first number by shifts (preset ∷ rest))
    → Apart N first number by shifts preset rest
apart laws N first number by shifts preset rest has =
    let f : ℕ = first + 3 * length rest in
    let n : ℕ = number + 3 * length rest in
    let two = (laws.parts N (latches_cells first number by shifts rest) (latch_cells by (shifts + 3 * length rest) f n preset)).parts has in
    let one = (laws.parts N (part_cells LOADED (loaded_given by (shifts + 3 * length rest) preset) f n) (held_bit_cells (f + 1) (n + 1) (holding_of by) (is_one preset) (Net (record { 0 = f })))).parts two.1 in
    record { others = two.0; loads = one.0; holds = one.1 }

start_at : PartLaws → (N : NetlistView) (first number : ℕ) (by : Latching) (shifts : ℕ) (presets : List Feed) (given : ℕ → Sig) (levels : Levels) (m : Moment) → IsWellFormed N
    → HasCells N (latches_cells first number by shifts presets) → IsStart N given m → Carries by.tck by.trst levels m → levels.trst ≡ false → latch_values m.value first presets ≡ bits_in presets
start_at laws N first number by shifts [] given levels m formed has start carried low = refl
start_at laws N first number by shifts (p ∷ rest) given levels m formed has start carried low =
    let f : ℕ = first + 3 * length rest in
    let n : ℕ = number + 3 * length rest in
    let cells = apart laws N first number by shifts p rest has in
    let here : m.value (f + 1) ≡ bit (is_one p)
    = (laws.held (f + 1) (n + 1) (holding_of by) (is_one p) (Net (record { 0 = f }))).start N given levels m formed cells.holds start carried low in
    let there = start_at laws N first number by shifts rest given levels m formed cells.others start carried low in
    ap (λ (x : Sig). x ∷ latch_values m.value first rest) here ∙ ap (λ (xs : List Sig). bit (is_one p) ∷ xs) there

step_at : PartLaws → (N : NetlistView) (first number : ℕ) (by : Latching) (shifts : ℕ) (presets : List Feed) (event : PinEvent) (w : TapState) (before after : Levels) (m m' : Moment)
    → IsWellFormed N → HasCells N (latches_cells first number by shifts presets) → IsSettled N m.pins m.state m.value → IsStep N event m m'
    → Carries by.tck by.trst before m → Carries by.tck by.trst after m' → Latches by w m
    → latch_values m'.value first presets ≡ bit_after before after (bits_in presets) (latch_values m.value first presets)
    (latched_after (bits_in presets) w (chain_values m.value shifts presets) (latch_values m.value first presets)) (latch_values m.value first presets)
step_at laws N first number by shifts [] event w before after m m' formed has settled step carried carried' latches =
    sym (ap (λ (xs : List Sig). bit_after before after [] [] xs []) (latched_same w []) ∙ edge_same (edge_of before.tck after.tck) after.trst [])
step_at laws N first number by shifts (p ∷ rest) event w before after m m' formed has settled step carried carried' latches =
    let f : ℕ = first + 3 * length rest in
    let n : ℕ = number + 3 * length rest in
    let s : Sig = m.value (shifts + 3 * length rest) in
    let v : Sig = m.value (f + 1) in
    let vs : List Sig = latch_values m.value first rest in
    let ss : List Sig = chain_values m.value shifts rest in
    let r : Sig = bit (is_one p) in
    let cells = apart laws N first number by shifts p rest has in
    let z : f + 0 ≡ f = omega arith in
    let e0 : m.value (f + 0) ≡ sig_mux (m.value by.in_reset.0) s r
    = (laws.meets N LOADED (loaded_given by (shifts + 3 * length rest) p) f n formed cells.loads _ m.state m.value settled 0 _ refl refl).1 in
    let e1 : m.value f ≡ sig_mux (bit (is_reset w)) s r = ap m.value (sym z) ∙ e0 ∙ ap (λ (x : Sig). sig_mux x s r) latches.resets in
    let here : m'.value (f + 1) ≡ bit_after before after r v (if (is_update w || is_reset w) then m.value f else v) v
    = (laws.held (f + 1) (n + 1) (holding_of by) (is_one p) (Net (record { 0 = f }))).step N event (is_update w || is_reset w) before after m m' formed cells.holds settled step
    carried carried' latches.loads in
    let loads : (if (is_update w || is_reset w) then m.value f else v) ≡ latched_bit r w s v
    = ap (λ (x : Sig). if (is_update w || is_reset w) then x else v) e1 ∙ loaded_is w r s v in
    let there = step_at laws N first number by shifts rest event w before after m m' formed cells.others settled step carried carried' latches in
    ap (λ (x : Sig). x ∷ latch_values m'.value first rest) (here ∙ ap (λ (x : Sig). bit_after before after r v x v) loads)
    ∙ ap (λ (xs : List Sig). bit_after before after r v (latched_bit r w s v) v ∷ xs) there
    ∙ after_cons (edge_of before.tck after.tck) after.trst r v (latched_bit r w s v) v (bits_in rest) vs (latched_after (bits_in rest) w ss vs) vs
    ∙ ap (λ (xs : List Sig). bit_after before after (r ∷ bits_in rest) (v ∷ vs) xs (v ∷ vs)) (latched_cons w r s v (bits_in rest) ss vs)

pub latches : PartLaws → LatchesFollow
latches laws = λ first number by shifts presets. record {
  start = λ N given levels m formed has start carried low. start_at laws N first number by shifts presets given levels m formed has start carried low;
  step = λ N event w before after m m' formed has settled step carried carried' steers.
      step_at laws N first number by shifts presets event w before after m m' formed has settled step carried carried' steers;
}
