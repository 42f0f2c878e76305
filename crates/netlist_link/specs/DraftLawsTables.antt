-- Parts and drivers that are appended to a well-formed netlist.
use Rattle.std.specs.Prelude.{◌≡◌, ℕ, suc, ◌+◌, ◌<◌, ◌&&◌, ◌||◌, not, Bool, true, false, List, [], ◌∷◌, length, slice_get, Some, None, IsTrue}
use Rattle.std.specs.List.{list_all}
use Rattle.cell_library.specs.declared.Kind.{Kind}
use Rattle.cell_library.specs.declared.Kind.TheVariants.{Assign}
use Rattle.cell_library.specs.declared.FlopKind.{FlopKind}
use Rattle.cell_library.specs.Gates.{is_three_state, flop_of, Takes}
use Rattle.netlist_model.specs.declared.Feed.{Feed}
use Rattle.netlist_model.specs.declared.Feed.TheVariants.{Net}
use Rattle.netlist_model.specs.Below.{AreFeedsBelow}
use Rattle.netlist_model.specs.Lists.{CellView, NetlistView, cell_count, direction, IsUndriven}
use Rattle.netlist_model.specs.Formed.{IsLaidOut, IsWellFormed}
use Rattle.netlist_model.specs.Settle.{IsDrivenOnce}
use Rattle.netlist_arena.specs.Arena.{ArenaView}
use Rattle.gate_parts.specs.declared.Pin.{Pin}
use Rattle.gate_parts.specs.declared.Pin.TheVariants.{Own, Given}
use Rattle.gate_parts.specs.declared.Gate.{Gate}
use Rattle.gate_parts.specs.Parts.{is_flop_kind, pins_of, part_cells, is_sound}
use Rattle.gate_parts.specs.Levels.{is_leveled_from}
use Rattle.gate_parts.specs.Appended.{Appended}
use Rattle.netlist_link.specs.Readable.{CanBeRead, IsPure}

-- own: an `assign` is written without a name, which an added cell has
abbrev pub is_assign : Kind → Bool
is_assign Assign = true
is_assign _ = false

-- own: a gate that may be added: no `bufif` and no `assign`
abbrev pub is_plain : Kind → Bool
is_plain kind = not (is_three_state kind) && not (is_assign kind)

-- own: the pin is something that is handed in
abbrev pub is_given : Pin → Bool
is_given (Own k) = false
is_given (Given k) = true

-- own: the pins after the first are handed in
abbrev pub rest_is_given : List Pin → Bool
rest_is_given [] = true
rest_is_given (pin ∷ pins) = list_all is_given pins

-- own: what clocks, clears and presets a flip-flop is handed in
abbrev pub has_given_controls : Gate → Bool
has_given_controls gate = not (is_flop_kind gate.kind) || rest_is_given (pins_of gate.pins)

-- own: a table that can be appended where so much is handed in: it is sound and fits its levels, its gates are plain,
-- and its flip-flops are controlled by what is handed in
pub record IsPartTable (gates : List Gate) (levels : List ℕ) (given : ℕ) : Type 0 where
  pub sound : IsTrue (is_sound gates given)
  pub leveled : IsTrue (is_leveled_from levels 0 gates)
  pub plain : IsTrue (list_all (λ (gate : Gate). is_plain gate.kind) gates)
  pub controls : IsTrue (list_all has_given_controls gates)

-- own: a flip-flop of the table is clocked, cleared or preset by what is handed in at this place
pub record IsControl (gates : List Gate) (given : ℕ) : Type 0 where
  pub place : ℕ
  pub gate : Gate
  pub pin : ℕ
  pub at : slice_get gates place ≡ Some gate
  pub flop : is_flop_kind gate.kind ≡ true
  pub has : slice_get (pins_of gate.pins) (suc pin) ≡ Some (Given given)

-- own: these can be handed in: nets that can be read, and pure ones where flip-flops are controlled by them
pub record CanBeGiven (N : NetlistView) (gates : List Gate) (given : List Feed) : Type 0 where
  pub below : AreFeedsBelow (length N.nets) given
  pub read : (k net : ℕ) → slice_get given k ≡ Some (Net (record { 0 = net })) → CanBeRead N net
  pub control : (k net : ℕ) → IsControl gates k → slice_get given k ≡ Some (Net (record { 0 = net })) → IsPure N net

-- own: where such a part is appended, a well-formed netlist stays so; what is named in a netlist is there, and no
-- net has two drivers
abbrev pub PartIsFormed : Type 0
PartIsFormed = (old new : ArenaView) (gates : List Gate) (levels : List ℕ) (given : List Feed) → IsLaidOut old.lists → IsWellFormed old.lists → IsDrivenOnce new.lists
    → Appended old new (length gates) (part_cells gates given (length old.lists.nets) (cell_count old.lists))
    → IsPartTable gates levels (length given) → CanBeGiven old.lists gates given → IsWellFormed new.lists

-- own: and the net of each of its gates can be read
abbrev pub PartIsReadable : Type 0
PartIsReadable = (old new : ArenaView) (gates : List Gate) (levels : List ℕ) (given : List Feed) → IsLaidOut old.lists → IsWellFormed old.lists → IsDrivenOnce new.lists
    → Appended old new (length gates) (part_cells gates given (length old.lists.nets) (cell_count old.lists))
    → IsPartTable gates levels (length given) → CanBeGiven old.lists gates given → (k : ℕ) → k < length gates → CanBeRead new.lists (length old.lists.nets + k)

-- own: a cell that can drive a net of no port that nothing drives
pub record IsDriverOn (N : NetlistView) (cell : CellView) (net : ℕ) : Type 0 where
  pub output : cell.output ≡ Some (record { 0 = net })
  pub outside : direction N.ports net ≡ None
  pub undriven : IsUndriven N net
  pub takes : Takes N.library cell.kind (length cell.feeds)
  pub two_state : is_three_state cell.kind ≡ false
  pub read : (place read : ℕ) → slice_get cell.feeds place ≡ Some (Net (record { 0 = read })) → CanBeRead N read
  pub control : (kind : FlopKind) (place read : ℕ) → flop_of N.library cell.kind ≡ Some kind → slice_get cell.feeds (suc place) ≡ Some (Net (record { 0 = read })) → IsPure N read

-- own: where such a cell is appended, a well-formed netlist stays so
abbrev pub DriverIsFormed : Type 0
DriverIsFormed = (old new : ArenaView) (cell : CellView) (net : ℕ) → IsWellFormed old.lists → IsDrivenOnce new.lists
    → Appended old new 0 (cell ∷ []) → IsDriverOn old.lists cell net → IsWellFormed new.lists
