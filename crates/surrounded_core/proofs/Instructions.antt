-- The instruction register, and what tells which opcode is latched.
use Rattle.std.proofs.Common.{◌≡◌, ℕ, zero, suc, ◌+◌, ◌*◌, ◌<◌, ◌≤◌, List, [], ◌∷◌, length, refl, subst, arith, Bool, true, false}
use Rattle.netlist_model.specs.declared.Feed.{Feed}
use Rattle.netlist_model.specs.declared.Feed.TheVariants.{Net, Const}
use Rattle.gate_parts.specs.Parts.{part_cells}
use Rattle.gate_parts.specs.Levels.{AreFeedsUpTo}
use Rattle.register_gates.specs.Bits.{held_bit, held_bit_given, held_bit_cells}
use Rattle.register_gates.specs.Chains.{chain_cells}
use Rattle.instruction_gates.specs.declared.latches.Latching.{Latching}
use Rattle.instruction_gates.specs.declared.latches.TheConstants.{LOADED}
use Rattle.instruction_gates.specs.declared.stages.TheConstants.{LOADS}
use Rattle.instruction_gates.specs.declared.matches.TheConstants.{EQUAL_BIT}
use Rattle.instruction_gates.specs.declared.copies.TheConstants.{COPY}
use Rattle.instruction_gates.specs.Rows.{is_one}
use Rattle.instruction_gates.specs.Latches.{holding_of, loaded_given, latch_cells, latches_cells}
use Rattle.instruction_gates.specs.Matches.{match_before, equal_given, match_cells, matches_cells}
use Rattle.instruction_gates.specs.Copies.{copy_given, copies_cells}
use Rattle.instruction_gates.specs.Stages.{loads_given, ir_steering, ir_latching, shift_stage_cells}
use Rattle.surrounded_core.specs.Above.{AreAbove, AreRanked}
use Rattle.surrounded_core.specs.Registers.{AreBitsRanked}
use Rattle.surrounded_core.specs.Instructions.{one_level, held_levels, equal_levels, AreLatchesRanked, StagesStandAbove, AreMatchesRanked, MatchesStandAbove, CopiesStandAbove}
use Rattle.surrounded_core.proofs.Above.{tables, joined}
use Rattle.surrounded_core.proofs.Registers.{chain}

held : (rank : ℕ → ℕ) (first number base : ℕ) (by : Latching) (preset : Bool) (loaded : Feed) → AreRanked rank first base held_levels (held_bit preset)
    → AreFeedsUpTo rank base (held_bit_given (holding_of by) loaded) → AreAbove rank (held_bit_cells first number (holding_of by) preset loaded)
held rank first number base by true loaded ranked up = tables rank first number base held_levels (held_bit true) (held_bit_given (holding_of by) loaded) refl ranked up
held rank first number base by false loaded ranked up = tables rank first number base held_levels (held_bit false) (held_bit_given (holding_of by) loaded) refl ranked up

-- one latched bit
latch : (rank : ℕ → ℕ) (first number base : ℕ) (by : Latching) (shift : ℕ) (preset : Feed) → AreRanked rank first base one_level LOADED
    → AreRanked rank (first + 1) (base + 1) held_levels (held_bit (is_one preset)) → rank shift ≤ base
    → AreFeedsUpTo rank base (Net by.tck ∷ Net by.trst ∷ Net by.load ∷ Net by.in_reset ∷ []) → AreAbove rank (latch_cells by shift first number preset)
latch rank first number base by shift preset one two low up =
    let z : first + 0 ≡ first = omega arith in
    let own0 : rank (first + 0) ≤ base + 1 = one.up_to 0 (omega arith) in
    let own : rank first ≤ base + 1 = rw z at own0 in
    let c0 = up.0 in let c1 = up.1.0 in let c2 = up.1.1.0 in let c3 = up.1.1.1.0 in
    joined rank (part_cells LOADED (loaded_given by shift preset) first number)
    (held_bit_cells (first + 1) (number + 1) (holding_of by) (is_one preset) (Net (record { 0 = first })))
    (tables rank first number base one_level LOADED (loaded_given by shift preset) refl one (low, (c3, tt)))
    (held rank (first + 1) (number + 1) (base + 1) by (is_one preset) (Net (record { 0 = first })) two
    (omega arith, (omega arith, (omega arith, (own, tt)))))

latches : (rank : ℕ → ℕ) (first number base : ℕ) (by : Latching) (shifts : ℕ) (presets : List Feed) → AreLatchesRanked rank first base (length presets)
    → ((k : ℕ) → k < length presets → rank (shifts + 3 * k) ≤ base)
    → AreFeedsUpTo rank base (Net by.tck ∷ Net by.trst ∷ Net by.load ∷ Net by.in_reset ∷ []) → AreAbove rank (latches_cells first number by shifts presets)
latches rank first number base by shifts [] ranked low up = tt
latches rank first number base by shifts (preset ∷ rest) ranked low up =
    let here = ranked (length rest) (omega arith) in
    joined rank (latches_cells first number by shifts rest)
    (latch_cells by (shifts + 3 * length rest) (first + 3 * length rest) (number + 3 * length rest) preset)
    (latches rank first number base by shifts rest (λ k below. ranked k (omega arith)) (λ k below. low k (omega arith)) up)
    (latch rank (first + 3 * length rest) (number + 3 * length rest) base by (shifts + 3 * length rest) preset here.0 (here.1 (is_one preset))
    (low (length rest) (omega arith)) up)

-- the bits of the shift stage
bit_up : (rank : ℕ → ℕ) (first base count : ℕ) → AreBitsRanked rank first base count → (k : ℕ) → k < count → rank (first + 3 * k) ≤ base + 1
bit_up rank first base count bits k below =
    let bit = (bits k below).up_to 0 (omega arith) in
    let z : first + 3 * k + 0 ≡ first + 3 * k = omega arith in
    let here : rank (first + 3 * k) ≤ base + 0 = rw z at bit in
    omega arith

pub stages : StagesStandAbove
stages = λ rank first number base by tdi captured presets same loads bits ranked up up'.
    let z : first + 0 ≡ first = omega arith in
    let own0 : rank (first + 0) ≤ base + 1 = loads.up_to 0 (omega arith) in
    let own : rank first ≤ base + 1 = rw z at own0 in
    let c0 = up.0 in let c1 = up.1.0 in let c2 = up.1.1.0 in let c3 = up.1.1.1.0 in let c4 = up.1.1.1.1.0 in let c5 = up.1.1.1.1.1.0 in let c6 = up.1.1.1.1.1.1.0 in
    joined rank (shift_stage_cells first number by tdi captured)
    (latches_cells (first + (1 + 3 * length captured)) (number + (1 + 3 * length captured)) (ir_latching first by) (first + 1) presets)
    (joined rank (part_cells LOADS (loads_given by) first number) (chain_cells (first + 1) (number + 1) (ir_steering by) tdi captured)
    (tables rank first number base one_level LOADS (loads_given by) refl loads (c4, (c5, tt)))
    (chain rank (first + 1) (number + 1) base (ir_steering by) tdi captured bits (c0, (c1, (c2, (c3, (c6, tt))))) up'))
    (latches rank (first + (1 + 3 * length captured)) (number + (1 + 3 * length captured)) (base + 1) (ir_latching first by) (first + 1) presets
    (λ k below. ranked k (omega arith)) (λ k below. bit_up rank (first + 1) base (length captured) bits k (omega arith))
    (omega arith, (omega arith, (own, (omega arith, tt)))))

-- what stands behind a bit
before_up : (rank : ℕ → ℕ) (first base behind count : ℕ) → AreMatchesRanked rank first base count → behind < count
    → AreFeedsUpTo rank (base + 2 * behind) (match_before first behind ∷ [])
before_up rank first base zero count ranked below = tt
before_up rank first base (suc behind) count ranked below =
    let here = (ranked behind (omega arith)).up_to 0 (omega arith) in
    let z : first + 2 * behind + 0 ≡ first + 2 * behind = omega arith in
    let own : rank (first + 2 * behind) ≤ base + 2 * behind + 2 = rw z at here in
    (omega arith, tt)

with_rest : (rank : ℕ → ℕ) (base : ℕ) (feed : Feed) (latch_net : ℕ) (b : Bool) → AreFeedsUpTo rank base (feed ∷ []) → rank latch_net ≤ base
    → AreFeedsUpTo rank base (feed ∷ Net (record { 0 = latch_net }) ∷ Const b ∷ [])
with_rest rank base (Net net) latch_net b up low = (up.0, (low, tt))
with_rest rank base (Const c) latch_net b up low = (low, tt)

matched : (rank : ℕ → ℕ) (first number base latched count : ℕ) (wanted : List Feed) → AreMatchesRanked rank first base count → length wanted ≤ count
    → ((k : ℕ) → k < count → AreFeedsUpTo rank base (Net (record { 0 = latched + 3 * k + 1 }) ∷ [])) → AreAbove rank (matches_cells first number latched wanted)
matched rank first number base latched count [] ranked few low = tt
matched rank first number base latched count (item ∷ rest) ranked few low =
    let k : ℕ = length rest in
    let latch_low = (low k (omega arith)).0 in
    joined rank (matches_cells first number latched rest)
    (match_cells (match_before first k) (latched + 3 * k + 1) (first + 2 * k) (number + 2 * k) item)
    (matched rank first number base latched count rest ranked (omega arith) low)
    (tables rank (first + 2 * k) (number + 2 * k) (base + 2 * k) equal_levels EQUAL_BIT (equal_given (match_before first k) (latched + 3 * k + 1) item) refl
    (ranked k (omega arith)) (with_rest rank (base + 2 * k) (match_before first k) (latched + 3 * k + 1) (is_one item) (before_up rank first base k count ranked (omega arith)) (omega arith)))

pub matches : MatchesStandAbove
matches = λ rank first number base latched wanted ranked low. matched rank first number base latched (length wanted) wanted ranked (omega arith) low

pub copies : CopiesStandAbove
copies rank first number base latched zero ranked low = tt
copies rank first number base latched (suc behind) ranked low =
    let at : (n m : ℕ) → n ≡ m → AreRanked rank n base one_level COPY → AreRanked rank m base one_level COPY
    = λ n m e here. subst (λ (k : ℕ). AreRanked rank k base one_level COPY) e here in
    joined rank (part_cells COPY (copy_given latched behind) first number) (copies_cells (suc first) (suc number) latched behind)
    (tables rank first number base one_level COPY (copy_given latched behind) refl (at (first + 0) first (omega arith) (ranked 0 (omega arith))) (low behind (omega arith), tt))
    (copies rank (suc first) (suc number) base latched behind (λ k below. at (first + suc k) (suc first + k) (omega arith) (ranked (suc k) (omega arith)))
    (λ k below. low k (omega arith)))
