-- The latched opcode on nets one behind another: the cells, and that they carry it in every well-formed netlist
-- that contains them.
-- Own: what reads the opcode needs no knowledge of how it is latched.
use Rattle.std.specs.Prelude.{◌≡◌, ℕ, zero, suc, ◌+◌, ◌*◌, List, [], ◌∷◌, ◌++◌, length}
use Rattle.signal_values.specs.declared.Sig.{Sig}
use Rattle.netlist_model.specs.declared.Feed.{Feed}
use Rattle.netlist_model.specs.declared.Feed.TheVariants.{Net}
use Rattle.netlist_model.specs.Lists.{CellView, NetlistView}
use Rattle.netlist_model.specs.Settled.{IsSettled}
use Rattle.netlist_model.specs.Formed.{IsWellFormed}
use Rattle.netlist_model.specs.Contained.{HasCells}
use Rattle.netlist_model.specs.Runs.{Moment}
use Rattle.gate_parts.specs.Parts.{part_cells}
use Rattle.instruction_gates.specs.declared.copies.TheConstants.{COPY}
use Rattle.instruction_gates.specs.Latches.{latch_values}

-- the values of so many nets from `first` on
abbrev pub row_values : (ℕ → Sig) → ℕ → ℕ → List Sig
row_values value first zero = []
row_values value first (suc count) = value first ∷ row_values value (suc first) count

-- own: what copies one latched bit, which has so many behind it
abbrev pub copy_given : ℕ → ℕ → List Feed
copy_given latches behind = Net (record { 0 = latches + 3 * behind + 1 }) ∷ []

-- own: the cells that copy so many latched bits on nets from `latches` on; the bit nearest TDO comes first
abbrev pub copies_cells : ℕ → ℕ → ℕ → ℕ → List CellView
copies_cells first number latches zero = []
copies_cells first number latches (suc behind) = part_cells COPY (copy_given latches behind) first number ++ copies_cells (suc first) (suc number) latches behind

-- own: the nets carry what is latched
abbrev pub CopiesTell : Type 0
CopiesTell = (first number latches : ℕ) (presets : List Feed) (N : NetlistView) (m : Moment) → IsWellFormed N → HasCells N (copies_cells first number latches (length presets))
    → IsSettled N m.pins m.state m.value → row_values m.value first (length presets) ≡ latch_values m.value latches presets
