-- Where the parts of the test logic stand in a netlist into which it is built, and in the stitched netlist.
-- IEEE Std 1149.1-2001: test logic architecture; the order is own.
use Rattle.std.specs.Prelude.{ℕ, ◌+◌, slice_get, Option, Some, None}
use Rattle.netlist_model.specs.Lists.{NetlistView, cell_count}
use Rattle.surrounded_core.specs.Rows.{BoundaryRow, observe_row}
use Rattle.surrounded_core.specs.Places.{Places}
use Rattle.plan_fitting.specs.declared.fitted.FitRow.{FitRow}
use Rattle.plan_fitting.specs.declared.fitted.Fitted.{Fitted}
use Rattle.stitched_netlist.specs.declared.model.TapNames.{TapNames}
use Rattle.stitched_netlist.specs.Sites.{Boundary}
use Rattle.stitched_netlist.specs.ModelRows.{nets_of_rows}
use Rattle.stitched_netlist.specs.ModelLogic.{instruction_from, bypass_from, ident_from, logic_size}
use Rattle.stitched_netlist.specs.Stitched.{boundary_at, first_net, boundary_last, stitched}
use Rattle.stitched_netlist.specs.PlacesLaws.{port_of, instruction_number, bypass_number, ident_number, tdo_number, row_first, row_side, row_number, row_next, boundary_row}
use Rattle.stitched_netlist.specs.Inner.{inner_net}

-- a row as gates; of a place without a row nothing is asked
abbrev pub gates_of : Boundary → ℕ → Option FitRow → BoundaryRow
gates_of B side None = observe_row (record { 0 = 0 })
gates_of B side (Some row) = boundary_row B side row

-- own: in M, into which the test logic of what fits N is built
abbrev pub places_in : NetlistView → NetlistView → Fitted → Places
places_in M N f = record {
  tck = (port_of N).tck;
  tms = (port_of N).tms;
  tdi = (port_of N).tdi;
  tdo = (port_of N).tdo;
  trst = (port_of N).trst;
  codes = f.codes;
  code = f.idcode;
  user = f.usercode;
  controller = first_net N f;
  controller_number = cell_count N;
  instruction = first_net N f + instruction_from;
  instruction_number = instruction_number N f;
  bypass = first_net N f + bypass_from f;
  bypass_number = bypass_number N f;
  ident = first_net N f + ident_from f;
  ident_number = ident_number N f;
  driver = first_net N f + logic_size f + nets_of_rows N.ports f.rows;
  driver_number = tdo_number N f;
  gates = λ place. gates_of (boundary_at N f) (row_side N f place) (slice_get f.rows place);
  row = row_first N f;
  row_number = row_number N f;
  next = row_next N f;
  nearest = boundary_last (boundary_at N f) (first_net N f) (port_of N) f;
  to = inner_net N M (boundary_at N f);
}

-- in the stitched netlist
abbrev pub places_of : NetlistView → TapNames → Fitted → Places
places_of N names f = places_in (stitched N names f) N f
