-- The instruction register and what tells which opcode is latched: levels and how they stand.
-- Own: the gates are those of register_gates and instruction_gates.
use Rattle.std.specs.Prelude.{◌≡◌, ℕ, ◌+◌, ◌*◌, ◌<◌, ◌≤◌, List, [], ◌∷◌, length, Bool}
use Rattle.netlist_model.specs.declared.NetId.{NetId}
use Rattle.netlist_model.specs.declared.Feed.{Feed}
use Rattle.netlist_model.specs.declared.Feed.TheVariants.{Net}
use Rattle.gate_parts.specs.Levels.{AreFeedsUpTo}
use Rattle.test_logic.specs.declared.TapNets.{TapNets}
use Rattle.register_gates.specs.Bits.{held_bit}
use Rattle.instruction_gates.specs.declared.latches.TheConstants.{LOADED}
use Rattle.instruction_gates.specs.declared.stages.TheConstants.{LOADS}
use Rattle.instruction_gates.specs.declared.matches.TheConstants.{EQUAL_BIT}
use Rattle.instruction_gates.specs.declared.copies.TheConstants.{COPY}
use Rattle.instruction_gates.specs.Copies.{copies_cells}
use Rattle.instruction_gates.specs.Stages.{stages_cells}
use Rattle.instruction_gates.specs.Matches.{matches_cells}
use Rattle.surrounded_core.specs.Above.{AreAbove, AreRanked}
use Rattle.surrounded_core.specs.Registers.{AreBitsRanked}

-- own: of one gate, and of a bit that is held
abbrev pub one_level : List ℕ
one_level = 1 ∷ []

abbrev pub held_levels : List ℕ
held_levels = 0 ∷ 1 ∷ []

-- own: of whether a bit and those behind it are an opcode's
abbrev pub equal_levels : List ℕ
equal_levels = 2 ∷ 1 ∷ []

-- own: each latched bit is numbered so: what it loads above the base, and the bit above that
abbrev pub AreLatchesRanked : (ℕ → ℕ) → ℕ → ℕ → ℕ → Type 0
AreLatchesRanked rank first base count = (k : ℕ) → k < count
    → AreRanked rank (first + 3 * k) base one_level LOADED × ((preset : Bool) → AreRanked rank (first + 3 * k + 1) (base + 1) held_levels (held_bit preset))

-- own: what loads them stands above the controller, and they above that
abbrev pub StagesStandAbove : Type 0
StagesStandAbove = (rank : ℕ → ℕ) (first number base : ℕ) (tap : TapNets) (tdi : NetId) (captured presets : List Feed) → length presets ≡ length captured
    → AreRanked rank first base one_level LOADS → AreBitsRanked rank (first + 1) base (length captured)
    → AreLatchesRanked rank (first + (1 + 3 * length captured)) (base + 1) (length captured)
    → AreFeedsUpTo rank base (Net tap.tck ∷ Net tap.trst ∷ Net tap.capture_ir ∷ Net tap.shift_ir ∷ Net tap.update_ir ∷ Net tap.in_reset ∷ Net tdi ∷ [])
    → AreFeedsUpTo rank base captured → AreAbove rank (stages_cells first number tap tdi captured presets)

-- own: each bit stands above those behind it
abbrev pub AreMatchesRanked : (ℕ → ℕ) → ℕ → ℕ → ℕ → Type 0
AreMatchesRanked rank first base count = (k : ℕ) → k < count → AreRanked rank (first + 2 * k) (base + 2 * k) equal_levels EQUAL_BIT

abbrev pub MatchesStandAbove : Type 0
MatchesStandAbove = (rank : ℕ → ℕ) (first number base latches : ℕ) (wanted : List Feed) → AreMatchesRanked rank first base (length wanted)
    → ((k : ℕ) → k < length wanted → AreFeedsUpTo rank base (Net (record { 0 = latches + 3 * k + 1 }) ∷ [])) → AreAbove rank (matches_cells first number latches wanted)

-- own: each copy of a latched bit is numbered so
abbrev pub AreCopiesRanked : (ℕ → ℕ) → ℕ → ℕ → ℕ → Type 0
AreCopiesRanked rank first base count = (k : ℕ) → k < count → AreRanked rank (first + k) base one_level COPY

abbrev pub CopiesStandAbove : Type 0
CopiesStandAbove = (rank : ℕ → ℕ) (first number base latches count : ℕ) → AreCopiesRanked rank first base count
    → ((k : ℕ) → k < count → rank (latches + 3 * k + 1) ≤ base) → AreAbove rank (copies_cells first number latches count)
