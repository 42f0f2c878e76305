-- The rows of a wrapped chip by their places in the test logic's lists.
-- IEEE Std 1149.1-2001: boundary-scan register.
use Rattle.std.specs.Prelude.{◌≡◌, ℕ, length, slice_get, Some}
use Rattle.signal_values.specs.declared.Sig.{Sig}
use Rattle.signal_values.specs.declared.PinSig.{PinSig}
use Rattle.netlist_model.specs.Lists.{NetlistView}
use Rattle.bsdl_device.specs.declared.values.CellRow.{CellRow}
use Rattle.bsdl_device.specs.declared.values.Device.{Device}
use Rattle.test_logic.specs.Machine.{Machine, in_effect, test_logic_of}
use Rattle.test_logic.specs.Rows.{CellAt, row_captured}
use Rattle.wrapped_chip.specs.Cells.{net_of_row, cell_at_net, captured}
use Rattle.boundary_cells.specs.MachineRows.{bit_at}

-- own: what stands at the cell of this number and row
abbrev pub chip_cell : Device → NetlistView → Machine → (ℕ → PinSig) → (ℕ → Sig) → ℕ → CellRow → CellAt
chip_cell B N m pins value place row = cell_at_net N m pins value B.cells place row (net_of_row N row)

-- own: it has the kind and the update bit of its place, and the list of what the cells capture has its value there
pub record IsChipRow (B : Device) (N : NetlistView) (m : Machine) (pins : ℕ → PinSig) (value : ℕ → Sig) (place : ℕ) (row : CellRow) : Type 0 where
  pub kind : slice_get (test_logic_of B).kinds place ≡ Some row.cell
  pub update : (chip_cell B N m pins value place row).upd ≡ bit_at m.update place
  pub captures : bit_at (captured B N m pins value) place ≡ row_captured row.cell row.function (in_effect (test_logic_of B) m) (chip_cell B N m pins value place row)

pub record ChipRows : Type 0 where
  pub each : (B : Device) (N : NetlistView) (m : Machine) (pins : ℕ → PinSig) (value : ℕ → Sig) (place : ℕ) (row : CellRow) → slice_get B.cells place ≡ Some row
      → IsChipRow B N m pins value place row
  -- and that list is as long as there are cells
  pub long : (B : Device) (N : NetlistView) (m : Machine) (pins : ℕ → PinSig) (value : ℕ → Sig) → length (captured B N m pins value) ≡ length (test_logic_of B).kinds
