-- When a device's boundary cells and test access port stand around a netlist.
-- IEEE Std 1149.1-2001: boundary-scan register; the annex on BSDL (logical port description, boundary register
-- description). That the device's first ports are the netlist's own is own.
use Rattle.std.specs.Prelude.{◌≡◌, ◌⊎◌, ℕ, slice_get, Some, None}
use Rattle.cell_library.specs.declared.codes.Function.TheVariants as function
use Rattle.netlist_model.specs.declared.NetId.{NetId}
use Rattle.netlist_model.specs.Lists.{PortView, NetlistView}
use Rattle.bsdl_device.specs.declared.values.DevBit.{DevBit}
use Rattle.bsdl_device.specs.declared.values.DevPort.{DevPort}
use Rattle.bsdl_device.specs.declared.values.CellRow.{CellRow}
use Rattle.bsdl_device.specs.declared.values.Device.{Device}
use Rattle.test_logic.specs.declared.TapInput.{TapInput}
use Rattle.wrapped_chip.specs.Cells.{net_of_row, row_of}
use Rattle.plan_fitting.specs.Devices.{mode_of_side}
use Rattle.scan_programs.specs.Pins.{port_word}
use Rattle.scan_programs.specs.Met.{input_place}

-- the cell stands at a bit of the netlist, and is the first that stands there
pub record StandsAtNet (B : Device) (N : NetlistView) (number : ℕ) (row : CellRow) : Type 0 where
  pub net : NetId
  pub at : net_of_row N row ≡ Some net
  pub found : row_of B N net.0 ≡ Some (record { number = number; row = row })

-- a control cell, which stands at no bit
pub record StandsAtNone (row : CellRow) : Type 0 where
  pub does : row.function ≡ function.Control
  pub pin : row.pin ≡ None

pub record StandsAround (B : Device) (N : NetlistView) : Type 0 where
  -- each cell stands at a bit of the netlist, or is a control cell
  pub cells : (number : ℕ) (row : CellRow) → slice_get B.cells number ≡ Some row → StandsAtNet B N number row ⊎ StandsAtNone row
  -- where a cell stands at a port, netlist and device have one of the same direction there
  pub sides : (number : ℕ) (row : CellRow) (bit : DevBit) (port : PortView) (q : DevPort) → slice_get B.cells number ≡ Some row → row.pin ≡ Some bit
      → slice_get N.ports bit.port ≡ Some port → slice_get B.ports bit.port ≡ Some q → q.mode ≡ mode_of_side port.dir
  -- no two inputs of the test access port have one name
  pub names : (input other : TapInput) → port_word B (input_place B input) ≡ port_word B (input_place B other) → input ≡ other
