-- Whether an opcode is latched: the cells that tell it, and that they do in every well-formed netlist
-- that contains them.
-- IEEE Std 1149.1-2001: instruction register; the gates are own.
use Rattle.std.specs.Prelude.{◌≡◌, ℕ, zero, suc, ◌+◌, ◌*◌, true, List, [], ◌∷◌, length, ⊤}
use Rattle.signal_values.specs.declared.Sig.{Sig}
use Rattle.signal_values.specs.declared.Sig.TheVariants.{Zero, One, Unknown}
use Rattle.signal_values.specs.Values.{bit}
use Rattle.netlist_model.specs.declared.Feed.{Feed}
use Rattle.netlist_model.specs.declared.Feed.TheVariants.{Net, Const}
use Rattle.netlist_model.specs.Lists.{CellView, NetlistView}
use Rattle.netlist_model.specs.Settled.{feed_value, IsSettled}
use Rattle.netlist_model.specs.Formed.{IsWellFormed}
use Rattle.netlist_model.specs.Contained.{HasCells}
use Rattle.netlist_model.specs.Runs.{Moment}
use Rattle.gate_parts.specs.Parts.{part_cells}
use Rattle.test_logic.specs.Instructions.{is_pattern}
use Rattle.instruction_gates.specs.declared.matches.TheConstants.{EQUAL_BIT}
use Rattle.instruction_gates.specs.Rows.{is_one, bits_in, row_cells, placed}
use Rattle.instruction_gates.specs.Latches.{latch_values}

-- own: whether the bits behind are the opcode's, where so many are
abbrev pub match_before : ℕ → ℕ → Feed
match_before first zero = Const true
match_before first (suc behind) = Net (record { 0 = first + 2 * behind })

abbrev pub equal_given : Feed → ℕ → Feed → List Feed
equal_given before latch wanted = before ∷ Net (record { 0 = latch }) ∷ Const (is_one wanted) ∷ []

-- own: the cells of one bit
abbrev pub match_cells : Feed → ℕ → ℕ → ℕ → Feed → List CellView
match_cells before latch first number wanted = part_cells EQUAL_BIT (equal_given before latch wanted) first number

-- own: the cells of all of them, of latched bits on nets from `latches` on
abbrev pub matches_cells : ℕ → ℕ → ℕ → List Feed → List CellView
matches_cells first number latches wanted =
    row_cells (placed (λ behind at cell item. match_cells (match_before first behind) (latches + 3 * behind + 1) at cell item) 2 first number) wanted

abbrev pub IsKnown : Sig → Type 0
IsKnown Zero = ⊤
IsKnown One = ⊤
IsKnown Unknown = ⊥

abbrev pub AreKnown : List Sig → Type 0
AreKnown [] = ⊤
AreKnown (x ∷ xs) = IsKnown x × AreKnown xs

-- own: where the latched bits are known, the answer is 1 exactly where they are the opcode's
abbrev pub MatchesTell : Type 0
MatchesTell = (first number latches : ℕ) (wanted : List Feed) (N : NetlistView) (m : Moment) → IsWellFormed N → HasCells N (matches_cells first number latches wanted)
    → IsSettled N m.pins m.state m.value → AreKnown (latch_values m.value latches wanted)
    → feed_value m.value (match_before first (length wanted)) ≡ bit (is_pattern (latch_values m.value latches wanted) (bits_in wanted))
