-- What stands at the boundary cells of a device by itself, what they capture and what pins read.
-- IEEE Std 1149.1-2001: boundary-scan register. What is outside, and that nothing is known of the core, is own.
use Rattle.std.specs.Prelude.{ℕ, List, map, slice_get, option_map}
use Rattle.std.specs.List.{enumerate_from}
use Rattle.std.specs.Option.{option_map_or}
use Rattle.signal_values.specs.declared.Sig.{Sig}
use Rattle.signal_values.specs.declared.Sig.TheVariants.{Unknown}
use Rattle.signal_values.specs.declared.PinSig.{PinSig}
use Rattle.signal_values.specs.declared.PinSig.TheVariants as pin
use Rattle.cell_library.specs.declared.codes.Function.{Function}
use Rattle.cell_library.specs.declared.codes.Function.TheVariants.{Input, Clock, Bidir}
use Rattle.bsdl_device.specs.declared.values.CellRow.{CellRow}
use Rattle.bsdl_device.specs.declared.values.Disable.{Disable}
use Rattle.bsdl_device.specs.declared.values.Device.{Device}
use Rattle.test_logic.specs.Instructions.{mode_of}
use Rattle.test_logic.specs.Machine.{Machine, in_effect, test_logic_of, update_of}
use Rattle.test_logic.specs.Rows.{ControlAt, CellAt, row_reading, row_captured}

-- what the core gives the cells, by their numbers: its value before each, and its control of the driver behind each
pub record Core : Type 0 where
  pub datum : ℕ → Sig
  pub control : ℕ → Sig

-- a core of which nothing is known
abbrev pub unknown_core : Core
unknown_core = record { datum = λ number. Unknown; control = λ number. Unknown }

-- own: outside a program leaves inputs at 0 and inouts alone
abbrev pub outside_at : Function → PinSig
outside_at Input = pin.Zero
outside_at Clock = pin.Zero
outside_at Bidir = pin.HighZ
outside_at _ = pin.Unknown

-- the control cell of the driver behind a cell
abbrev pub control_at : Machine → Core → ℕ → Disable → ControlAt
control_at m core number disable = record { disable = disable.value; upd = update_of m disable.control; core = core.control number }

-- what stands at the cell of this number
abbrev pub cell_at : Machine → Core → ℕ → CellRow → CellAt
cell_at m core number row = record {
  upd = update_of m number;
  core = core.datum number;
  control = option_map (control_at m core number) row.disable;
  outside = outside_at row.function;
}

abbrev pub captured_at : Device → Machine → Core → ℕ × CellRow → Sig
captured_at B m core (number, row) = row_captured row.cell row.function (in_effect (test_logic_of B) m) (cell_at m core number row)

-- what each cell captures
unfoldable pub captured : Device → Machine → Core → List Sig
captured B m core = map (captured_at B m core) (enumerate_from 0 B.cells)

-- what the pin of a cell reads
abbrev pub reading_at : Device → Machine → Core → ℕ → CellRow → PinSig
reading_at B m core number row = row_reading row.function (mode_of (in_effect (test_logic_of B) m)) (cell_at m core number row)

-- the same by the cell's number
abbrev pub reading : Device → Machine → Core → ℕ → PinSig
reading B m core number = option_map_or (reading_at B m core number) (slice_get B.cells number) pin.Unknown
