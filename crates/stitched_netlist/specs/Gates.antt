-- What is common to the cells of the test logic, and the tables that they come from.
-- IEEE Std 1149.1-2001: TAP controller (what acts on TCK and TRST); the order of nets is own.
use Rattle.std.specs.Prelude.{◌≡◌, ℕ, suc, ◌==◌, ◌&&◌, ◌||◌, not, Bool, true, false, List, [], ◌∷◌, length, slice_get, Option, Some, None, ⊤}
use Rattle.std.specs.List.{list_all}
use Rattle.cell_library.specs.declared.Kind.{Kind}
use Rattle.cell_library.specs.declared.Kind.TheVariants.{Flop, Listed}
use Rattle.cell_library.specs.declared.listed.ListedCell.{ListedCell}
use Rattle.cell_library.specs.Gates.{is_three_state, Takes}
use Rattle.netlist_model.specs.declared.NetId.{NetId}
use Rattle.netlist_model.specs.declared.Feed.{Feed}
use Rattle.netlist_model.specs.declared.Feed.TheVariants.{Net, Const}
use Rattle.netlist_model.specs.Lists.{CellView}
use Rattle.gate_parts.specs.declared.Pin.{Pin}
use Rattle.gate_parts.specs.declared.Pin.TheVariants.{Own, Given}
use Rattle.gate_parts.specs.declared.Gate.{Gate}
use Rattle.gate_parts.specs.Parts.{pins_of, is_sound_gate}

-- Lists of cells.

-- own: it holds of each cell
abbrev pub EachCell : (CellView → Type 0) → List CellView → Type 0
EachCell P [] = ⊤
EachCell P (cell ∷ cells) = P cell × EachCell P cells

-- own: the cells drive nets with rising numbers, from this one on
abbrev pub DriveInTurn : ℕ → List CellView → Type 0
DriveInTurn net [] = ⊤
DriveInTurn net (cell ∷ cells) = (cell.output ≡ Some (record { 0 = net })) × DriveInTurn (suc net) cells

-- own: it holds of each net that is read
abbrev pub FeedsAre : (ℕ → Type 0) → List Feed → Type 0
FeedsAre P [] = ⊤
FeedsAre P (Net net ∷ feeds) = P net.0 × FeedsAre P feeds
FeedsAre P (Const b ∷ feeds) = FeedsAre P feeds

-- own: a flip-flop under some library
abbrev pub may_keep : Kind → Bool
may_keep (Flop kind) = true
may_keep (Listed number) = true
may_keep _ = false

-- own: a gate or flip-flop with as many operands as its kind takes under any library, all of them such nets, which TCK
-- clocks and TRST clears or presets
pub record IsLogicCell (tck trst : NetId) (P : ℕ → Type 0) (cell : CellView) : Type 0 where
  pub takes : (library : List ListedCell) → Takes library cell.kind (length cell.feeds)
  pub two_state : is_three_state cell.kind ≡ false
  pub reads : FeedsAre P cell.feeds
  pub clock : may_keep cell.kind ≡ true → slice_get cell.feeds 1 ≡ Some (Net tck)
  pub reset : may_keep cell.kind ≡ true → slice_get cell.feeds 2 ≡ Some (Net trst)

-- Tables.

-- own: the pin is what is handed in at this place
abbrev pub is_given_at : ℕ → Option Pin → Bool
is_given_at place None = false
is_given_at place (Some (Own k)) = false
is_given_at place (Some (Given k)) = k == place

-- own: what is handed in at these places clocks a flip-flop, and clears or presets it
abbrev pub is_clocked_by : ℕ → ℕ → Gate → Bool
is_clocked_by clock reset gate = not (may_keep gate.kind) || (is_given_at clock (slice_get (pins_of gate.pins) 1) && is_given_at reset (slice_get (pins_of gate.pins) 2))

abbrev pub is_logic_gate : ℕ → ℕ → ℕ → ℕ → Gate → Bool
is_logic_gate gates given clock reset gate = is_sound_gate gates given gate && (not (is_three_state gate.kind) && is_clocked_by clock reset gate)

-- own: the table's gates are sound where so much is handed in, none is three-state, and these two steer the flip-flops
abbrev pub is_logic_table : List Gate → ℕ → ℕ → ℕ → Bool
is_logic_table gates given clock reset = list_all (is_logic_gate (length gates) given clock reset) gates

-- own: a sound gate that is neither three-state nor a flip-flop
abbrev pub is_plain_gate : ℕ → ℕ → Gate → Bool
is_plain_gate gates given gate = is_sound_gate gates given gate && (not (is_three_state gate.kind) && not (may_keep gate.kind))
