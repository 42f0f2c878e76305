-- Whether the latched opcode, which stands on nets in a row with bit 0 first, is a certain one. In a list place 0 is
-- nearest TDO.
-- IEEE Std 1149.1-2001: instruction register; the gates are own.
use Rattle.std.specs.Prelude.{◌≡◌, ℕ, zero, suc, ◌+◌, Bool, true, false, List, [], ◌∷◌, ◌++◌, length, ⊤}
use Rattle.signal_values.specs.declared.Sig.{Sig}
use Rattle.signal_values.specs.Values.{bit, sig_not}
use Rattle.netlist_model.specs.declared.Feed.{Feed}
use Rattle.netlist_model.specs.declared.Feed.TheVariants.{Net, Const}
use Rattle.netlist_model.specs.Lists.{CellView, NetlistView}
use Rattle.netlist_model.specs.Settled.{feed_value, IsSettled}
use Rattle.netlist_model.specs.Formed.{IsWellFormed}
use Rattle.netlist_model.specs.Contained.{HasCells}
use Rattle.netlist_model.specs.Runs.{Moment}
use Rattle.gate_parts.specs.Parts.{part_cells}
use Rattle.test_logic.specs.Instructions.{is_pattern}
use Rattle.register_gates.specs.declared.ident.TheConstants.{INVERSE}
use Rattle.instruction_gates.specs.Rows.{is_one, bits_in}
use Rattle.instruction_gates.specs.Copies.{row_values}
use Rattle.instruction_gates.specs.Matches.{AreKnown}
use Rattle.status_gates.specs.declared.TheConstants.{BOTH}

-- own: the cells of the inverses, shared by all opcodes
abbrev pub inverses_cells : ℕ → ℕ → ℕ → ℕ → List CellView
inverses_cells first number opcode zero = []
inverses_cells first number opcode (suc behind) =
    part_cells INVERSE (Net (record { 0 = opcode }) ∷ []) first number ++ inverses_cells (suc first) (suc number) (suc opcode) behind

abbrev pub AreInverses : (ℕ → Sig) → ℕ → ℕ → ℕ → Type 0
AreInverses value opcode inverses zero = ⊤
AreInverses value opcode inverses (suc behind) = (value inverses ≡ sig_not (value opcode)) × AreInverses value (suc opcode) (suc inverses) behind

abbrev pub InversesTell : Type 0
InversesTell = (first number opcode count : ℕ) (N : NetlistView) (m : Moment) → IsWellFormed N → HasCells N (inverses_cells first number opcode count)
    → IsSettled N m.pins m.state m.value → AreInverses m.value opcode first count

-- own: the bit, or its inverse where the opcode's is 0
abbrev pub literal : Bool → ℕ → ℕ → Feed
literal true opcode inverse = Net (record { 0 = opcode })
literal false opcode inverse = Net (record { 0 = inverse })

-- own: what tells of these bits
abbrev pub told_feed : ℕ → List Feed → Feed
told_feed first [] = Const true
told_feed first (wanted ∷ rest) = Net (record { 0 = first + length rest })

-- own: its cells, one gate a bit
abbrev pub opcode_cells : ℕ → ℕ → ℕ → ℕ → List Feed → List CellView
opcode_cells first number opcode inverses [] = []
opcode_cells first number opcode inverses (wanted ∷ rest) = opcode_cells first number (suc opcode) (suc inverses) rest
    ++ part_cells BOTH (literal (is_one wanted) opcode inverses ∷ told_feed first rest ∷ []) (first + length rest) (number + length rest)

-- where the latched bits are known, the answer is 1 exactly where they are the opcode's
abbrev pub OpcodesTell : Type 0
OpcodesTell = (first number opcode inverses : ℕ) (wanted : List Feed) (N : NetlistView) (m : Moment) → IsWellFormed N
    → HasCells N (opcode_cells first number opcode inverses wanted) → IsSettled N m.pins m.state m.value → AreInverses m.value opcode inverses (length wanted)
    → AreKnown (row_values m.value opcode (length wanted))
    → feed_value m.value (told_feed first wanted) ≡ bit (is_pattern (row_values m.value opcode (length wanted)) (bits_in wanted))
