-- own: what the code's cells stand for.
use Rattle.std.specs.Prelude.{option_map}
use Rattle.test_logic.specs.Rows.{ControlAt, CellAt}
use Rattle.scan_programs.specs.declared.cells.Control.{Control}
use Rattle.scan_programs.specs.declared.cells.Cell.{Cell}

abbrev pub control_view : Control → ControlAt
control_view c = record { disable = c.disable; upd = c.upd; core = c.core }

abbrev pub cell_view : Cell → CellAt
cell_view c = record { upd = c.upd; core = c.core; control = option_map control_view c.control; outside = c.outside }
