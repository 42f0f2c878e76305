-- Nets are numbered so that each gate's net stands above those that it reads: what that is for a list of cells, and a
-- table of levels that shows it by one computation.
use Rattle.std.specs.Prelude.{◌≡◌, ℕ, suc, ◌+◌, ◌<◌, ◌≤◌, ◌&&◌, ◌||◌, nat_lt, Bool, true, false, List, [], ◌∷◌, ◌++◌, length, slice_get, slice_index, Option, Some, None, ⊤}
use Rattle.std.specs.List.{list_all}
use Rattle.cell_library.specs.declared.listed.ListedCell.{ListedCell}
use Rattle.cell_library.specs.Gates.{is_flop}
use Rattle.netlist_model.specs.declared.NetId.{NetId}
use Rattle.netlist_model.specs.declared.Feed.{Feed}
use Rattle.netlist_model.specs.Lists.{CellView}
use Rattle.netlist_model.specs.Formed.{FeedsBelow}
use Rattle.gate_parts.specs.declared.Pin.{Pin}
use Rattle.gate_parts.specs.declared.Pin.TheVariants.{Own, Given}
use Rattle.gate_parts.specs.declared.Gate.{Gate}
use Rattle.gate_parts.specs.Parts.{is_flop_kind, pins_of}

-- own: each net that is read has a smaller number than the one that is driven
abbrev pub StandsOn : (ℕ → ℕ) → List Feed → Option NetId → Type 0
StandsOn rank feeds None = ⊤
StandsOn rank feeds (Some net) = FeedsBelow rank feeds (rank net.0)

-- own: so it is of a gate; a flip-flop may stand anywhere
abbrev pub IsAbove : (ℕ → ℕ) → CellView → Type 0
IsAbove rank cell = is_flop_kind cell.kind ≡ false → StandsOn rank cell.feeds cell.output

abbrev pub AreAbove : (ℕ → ℕ) → List CellView → Type 0
AreAbove rank [] = ⊤
AreAbove rank (cell ∷ cells) = IsAbove rank cell × AreAbove rank cells

-- own: so it is of each gate of a core with this library, whose listed flip-flops may stand anywhere too
abbrev pub AreGatesAbove : List ListedCell → (ℕ → ℕ) → List CellView → Type 0
AreGatesAbove library rank [] = ⊤
AreGatesAbove library rank (cell ∷ cells) = (is_flop library cell.kind ≡ false → StandsOn rank cell.feeds cell.output) × AreGatesAbove library rank cells

-- own: each gate of a core and of the parts behind it stands so
abbrev pub StandsByPlace : Type 0
StandsByPlace = (library : List ListedCell) (rank : ℕ → ℕ) (core parts : List CellView) → AreGatesAbove library rank core → AreAbove rank parts
    → (k : ℕ) (cell : CellView) (net : NetId) → slice_get (core ++ parts) k ≡ Some cell → cell.output ≡ Some net
    → is_flop library cell.kind ≡ false → FeedsBelow rank cell.feeds (rank net.0)

-- own: lists one after the other stand so where each does
abbrev pub PartsStandAbove : Type 0
PartsStandAbove = (rank : ℕ → ℕ) (front back : List CellView) → AreAbove rank front → AreAbove rank back → AreAbove rank (front ++ back)

-- own: what the pin names is a gate of the table on a lower level; what is handed in stands on level 0
abbrev pub is_low_pin : ℕ → List ℕ → ℕ → Pin → Bool
is_low_pin count levels level (Own j) = nat_lt j count && nat_lt (slice_index levels j) level
is_low_pin count levels level (Given k) = nat_lt 0 level

-- own: so it is of each gate from this place on
abbrev pub fits_from : ℕ → List ℕ → ℕ → List Gate → Bool
fits_from count levels k [] = true
fits_from count levels k (gate ∷ gates) =
    (is_flop_kind gate.kind || list_all (is_low_pin count levels (slice_index levels k)) (pins_of gate.pins)) && fits_from count levels (suc k) gates

abbrev pub fits : List ℕ → List Gate → Bool
fits levels gates = fits_from (length gates) levels 0 gates

-- own: the nets of a table, from `first` on, are numbered by its levels above the base; a flip-flop's may have any
-- number up to that
pub record AreRanked (rank : ℕ → ℕ) (first base : ℕ) (levels : List ℕ) (gates : List Gate) : Type 0 where
  pub up_to : (j : ℕ) → j < length gates → rank (first + j) ≤ base + slice_index levels j
  pub from : (k : ℕ) (gate : Gate) → slice_get gates k ≡ Some gate → is_flop_kind gate.kind ≡ false → base + slice_index levels k ≤ rank (first + k)
