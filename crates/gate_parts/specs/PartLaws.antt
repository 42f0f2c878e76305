-- What the gates of any table do, by their places, in a well-formed netlist that contains the cells of the table.
use Rattle.std.specs.Prelude.{◌≡◌, ℕ, ◌+◌, false, List, map, slice_get, Some}
use Rattle.signal_values.specs.declared.Sig.{Sig}
use Rattle.netlist_arena.specs.cell_library.declared.FlopKind.{FlopKind}
use Rattle.netlist_arena.specs.cell_library.declared.listed.ListedCell.{ListedCell}
use Rattle.netlist_arena.specs.cell_library.declared.Kind.TheVariants.{Flop}
use Rattle.netlist_arena.specs.cell_library.Gates.{is_three_state}
use Rattle.netlist_arena.specs.netlist_model.declared.Feed.{Feed}
use Rattle.netlist_arena.specs.netlist_model.Lists.{NetlistView}
use Rattle.netlist_arena.specs.netlist_model.Settled.{feed_values, cell_value, Meets}
use Rattle.netlist_arena.specs.netlist_model.Formed.{IsWellFormed}
use Rattle.netlist_arena.specs.netlist_model.Contained.{HasCells}
use Rattle.gate_parts.specs.declared.Gate.{Gate}
use Rattle.gate_parts.specs.Parts.{feed_of, pins_of, part_cells}
use Rattle.gate_parts.specs.Laws.{FlopOn}

-- own: the operands of a gate, where the part's own nets begin at `first`
abbrev pub gate_feeds : ℕ → List Feed → Gate → List Feed
gate_feeds first given gate = map (feed_of first given) (pins_of gate.pins)

-- own: each net of the part has what its gate gives it; a flip-flop gives what it keeps
abbrev pub PartMeets : List ListedCell → List Gate → List Feed → ℕ → (ℕ → Sig) → Type 0
PartMeets library gates given first value = (k : ℕ) (gate : Gate) → slice_get gates k ≡ Some gate → is_three_state gate.kind ≡ false
    → (kept : Sig) × (value (first + k) ≡ cell_value library gate.kind (feed_values value (gate_feeds first given gate)) kept)

-- own: so it is wherever the part is contained, under any rule for the nets of pins
abbrev pub ContainedPartMeets : Type 0
ContainedPartMeets = (N : NetlistView) (gates : List Gate) (given : List Feed) (first number : ℕ) → IsWellFormed N → HasCells N (part_cells gates given first number)
    → (rule : (ℕ → Sig) → ℕ → Sig) (state value : ℕ → Sig) → Meets N rule state value → PartMeets N.library gates given first value

-- own: and each flip-flop of the table is one on its net
abbrev pub ContainedPartHasFlops : Type 0
ContainedPartHasFlops = (N : NetlistView) (gates : List Gate) (given : List Feed) (first number : ℕ) → IsWellFormed N → HasCells N (part_cells gates given first number)
    → (k : ℕ) (gate : Gate) (kind : FlopKind) → slice_get gates k ≡ Some gate → gate.kind ≡ Flop kind → FlopOn N kind (gate_feeds first given gate) (first + k)
