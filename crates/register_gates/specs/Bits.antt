-- The cells of one bit of a register.
-- IEEE Std 1149.1-2001: instruction register, test data registers; the gates are own.
use Rattle.std.specs.Prelude.{ℕ, ◌<◌, Bool, List, [], ◌∷◌, if◌then◌else◌}
use Rattle.netlist_model.specs.declared.NetId.{NetId}
use Rattle.netlist_model.specs.declared.Feed.{Feed}
use Rattle.netlist_model.specs.declared.Feed.TheVariants.{Net}
use Rattle.netlist_model.specs.Lists.{CellView}
use Rattle.gate_parts.specs.declared.Gate.{Gate}
use Rattle.gate_parts.specs.Parts.{part_cells}
use Rattle.register_gates.specs.declared.bits.Steering.{Steering}
use Rattle.register_gates.specs.declared.bits.Holding.{Holding}
use Rattle.register_gates.specs.declared.bits.TheConstants.{SHIFT_BIT, CLEARED_BIT, PRESET_BIT}

-- own: both nets have numbers below this one
abbrev pub AreNetsBelow : ℕ → NetId → NetId → Type 0
AreNetsBelow count a b = (a.0 < count) × (b.0 < count)

-- own: what is handed to a bit of a shift stage
abbrev pub shift_bit_given : Steering → Feed → NetId → List Feed
shift_bit_given by captured next = Net by.tck ∷ Net by.trst ∷ Net by.capture ∷ Net by.shift ∷ captured ∷ Net next ∷ []

-- own: its cells, from this cell number on, on the nets from `first` on; the bit is the first of them
abbrev pub shift_bit_cells : ℕ → ℕ → Steering → Feed → NetId → List CellView
shift_bit_cells first number by captured next = part_cells SHIFT_BIT (shift_bit_given by captured next) first number

-- own: what is handed to a bit that is held
abbrev pub held_bit_given : Holding → Feed → List Feed
held_bit_given by loaded = Net by.tck ∷ Net by.trst ∷ Net by.load ∷ loaded ∷ []

-- own: the table of a bit that TRST presets, or clears
abbrev pub held_bit : Bool → List Gate
held_bit preset = if preset then PRESET_BIT else CLEARED_BIT

-- own: its cells; the bit is on the first net
abbrev pub held_bit_cells : ℕ → ℕ → Holding → Bool → Feed → List CellView
held_bit_cells first number by preset loaded = part_cells (held_bit preset) (held_bit_given by loaded) first number
