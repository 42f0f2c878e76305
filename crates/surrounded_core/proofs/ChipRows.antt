-- The rows of a wrapped chip by their places.
use Rattle.std.proofs.Common.{◌≡◌, ℕ, zero, suc, ◌+◌, List, [], ◌∷◌, length, refl, sym, ap, ◌∙◌, arith, Some}
use Rattle.std.specs.Prelude.{map, slice_get, Option, None}
use Rattle.signal_values.specs.declared.Sig.{Sig}
use Rattle.signal_values.specs.declared.PinSig.{PinSig}
use Rattle.netlist_model.specs.declared.NetId.{NetId}
use Rattle.netlist_model.specs.Lists.{NetlistView}
use Rattle.bsdl_device.specs.declared.values.CellRow.{CellRow}
use Rattle.bsdl_device.specs.declared.values.Device.{Device}
use Rattle.test_logic.specs.Machine.{Machine, in_effect, test_logic_of}
use Rattle.test_logic.specs.Rows.{row_captured}
use Rattle.wrapped_chip.specs.Cells.{net_of_row, cell_at_net, captured_from, captured}
use Rattle.boundary_cells.specs.MachineRows.{bit_at}
use Rattle.surrounded_core.specs.ChipRows.{chip_cell, ChipRows}
use Rattle.surrounded_core.proofs.Lengths.{by_place}

kind_at : (rows : List CellRow) (place : ℕ) (row : CellRow) → slice_get rows place ≡ Some row → slice_get (map (λ (r : CellRow). r.cell) rows) place ≡ Some row.cell
kind_at [] place row at = absurd (cc)
kind_at (r ∷ rows) zero row at = let same : r ≡ row = cc in rw same refl
kind_at (r ∷ rows) (suc place) row at = kind_at rows place row at

pub kinds_long : (rows : List CellRow) → length (map (λ (r : CellRow). r.cell) rows) ≡ length rows
kinds_long [] = refl
kinds_long (r ∷ rows) = ap (λ (n : ℕ). suc n) (kinds_long rows)

update_at : (N : NetlistView) (m : Machine) (pins : ℕ → PinSig) (value : ℕ → Sig) (rows : List CellRow) (place : ℕ) (row : CellRow) (net : Option NetId)
    → (cell_at_net N m pins value rows place row net).upd ≡ bit_at m.update place
update_at N m pins value rows place row None = by_place m.update place
update_at N m pins value rows place row (Some net) = by_place m.update place

captured_at : (B : Device) (N : NetlistView) (m : Machine) (pins : ℕ → PinSig) (value : ℕ → Sig) (number : ℕ) (rows : List CellRow) (place : ℕ) (row : CellRow) → slice_get rows place ≡ Some row
    → bit_at (captured_from B N m pins value number rows) place
    ≡ row_captured row.cell row.function (in_effect (test_logic_of B) m) (chip_cell B N m pins value (number + place) row)
captured_at B N m pins value number [] place row at = absurd (cc)
captured_at B N m pins value number (r ∷ rows) zero row at =
    let same : r ≡ row = cc in
    let z : number + 0 ≡ number = omega arith in
    rw (z, ← same) refl
captured_at B N m pins value number (r ∷ rows) (suc place) row at =
    let e : number + suc place ≡ suc number + place = omega arith in
    rw e (captured_at B N m pins value (suc number) rows place row at)

captured_long : (B : Device) (N : NetlistView) (m : Machine) (pins : ℕ → PinSig) (value : ℕ → Sig) (number : ℕ) (rows : List CellRow)
    → length (captured_from B N m pins value number rows) ≡ length rows
captured_long B N m pins value number [] = refl
captured_long B N m pins value number (r ∷ rows) = ap (λ (n : ℕ). suc n) (captured_long B N m pins value (suc number) rows)

from_first : (B : Device) (N : NetlistView) (m : Machine) (pins : ℕ → PinSig) (value : ℕ → Sig) (place : ℕ) (row : CellRow) → slice_get B.cells place ≡ Some row
    → bit_at (captured B N m pins value) place ≡ row_captured row.cell row.function (in_effect (test_logic_of B) m) (chip_cell B N m pins value place row)
unfolding captured
from_first B N m pins value place row at =
    let z : 0 + place ≡ place = omega arith in
    let h : bit_at (captured_from B N m pins value 0 B.cells) place
    ≡ row_captured row.cell row.function (in_effect (test_logic_of B) m) (chip_cell B N m pins value (0 + place) row)
    = captured_at B N m pins value 0 B.cells place row at in
    rw z at h

whole_long : (B : Device) (N : NetlistView) (m : Machine) (pins : ℕ → PinSig) (value : ℕ → Sig) → length (captured B N m pins value) ≡ length (test_logic_of B).kinds
unfolding captured
whole_long B N m pins value = captured_long B N m pins value 0 B.cells ∙ sym (kinds_long B.cells)

pub chip_rows : ChipRows
chip_rows = record {
  each = λ B N m pins value place row at. record {
    kind = kind_at B.cells place row at;
    update = update_at N m pins value B.cells place row (net_of_row N row);
    captures = from_first B N m pins value place row at;
  };
  long = whole_long;
}
