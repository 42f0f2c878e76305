-- How many gates have an operand on a net that changed.
use Rattle.std.specs.Prelude.{ℕ, zero, suc, ◌+◌, ◌≤◌, nat_lt, Bool, true, false, not, ◌&&◌, ◌||◌, List, [], ◌∷◌, length, Option, Some, None, if◌then◌else◌}
use Rattle.signal_values.specs.declared.Sig.{Sig}
use Rattle.signal_values.specs.declared.Sig.TheVariants.{Zero, One, Unknown}
use Rattle.cell_library.specs.declared.listed.ListedCell.{ListedCell}
use Rattle.cell_library.specs.Gates.{is_flop}
use Rattle.netlist_model.specs.declared.Feed.{Feed}
use Rattle.netlist_model.specs.declared.Feed.TheVariants.{Net, Const}
use Rattle.netlist_model.specs.Lists.{CellView, NetlistView, cell_at}

-- own: the values differ
abbrev pub differs : Sig → Sig → Bool
differs Zero Zero = false
differs Zero One = true
differs Zero Unknown = true
differs One Zero = true
differs One One = false
differs One Unknown = true
differs Unknown Zero = true
differs Unknown One = true
differs Unknown Unknown = false

-- own: some operand is a net whose value differs
abbrev pub any_differs : (ℕ → Sig) → (ℕ → Sig) → List Feed → Bool
any_differs before after [] = false
any_differs before after (Net net ∷ feeds) = differs (before net.0) (after net.0) || any_differs before after feeds
any_differs before after (Const b ∷ feeds) = any_differs before after feeds

-- own: a live gate with such an operand
abbrev pub is_touched : List ListedCell → (ℕ → Sig) → (ℕ → Sig) → Option CellView → Bool
is_touched library before after None = false
is_touched library before after (Some cell) = not (is_flop library cell.kind) && any_differs before after cell.feeds

-- own: how many of the first so many numbers pass a test
abbrev pub passing : (ℕ → Bool) → ℕ → ℕ
passing test zero = 0
passing test (suc n) = (if test n then 1 else 0) + passing test n

-- own: how many gates have an operand on a net whose value differs
abbrev pub touched_count : NetlistView → (ℕ → Sig) → (ℕ → Sig) → ℕ
touched_count N before after = passing (λ number. is_touched N.library before after (cell_at N number)) (length N.cells)

-- own: a live gate
abbrev pub is_gate : List ListedCell → Option CellView → Bool
is_gate library None = false
is_gate library (Some cell) = not (is_flop library cell.kind)

-- own: how many gates there are
abbrev pub gate_count : NetlistView → ℕ
gate_count N = passing (λ number. is_gate N.library (cell_at N number)) (length N.cells)

-- own: a gate that is touched, whose turn comes before this one
abbrev pub is_passed : NetlistView → (ℕ → ℕ) → (ℕ → Sig) → (ℕ → Sig) → ℕ → ℕ → Bool
is_passed N turn before after from number = is_touched N.library before after (cell_at N number) && nat_lt (turn number) from

-- own: at most as many steps as gates that are touched, whose turns come before this one
abbrev pub IsCounted : NetlistView → (ℕ → ℕ) → (ℕ → Sig) → (ℕ → Sig) → ℕ → ℕ → Type 0
IsCounted N turn before after from steps = steps ≤ passing (is_passed N turn before after from) (length N.cells)
