-- The netlist with the test logic built in, whose bypass bit goes to TDO through a buffer of its own.
-- IEEE Std 1149.1-2001: test logic architecture, bypass register; the buffer and the order are own.
use Rattle.std.specs.Prelude.{ℕ, ◌+◌, List, [], ◌∷◌, ◌++◌, map, length, Some}
use Rattle.cell_library.specs.declared.Kind.TheVariants.{Buf}
use Rattle.netlist_model.specs.declared.Name.TheVariants.{Added}
use Rattle.netlist_model.specs.declared.NetId.{NetId}
use Rattle.netlist_model.specs.declared.Feed.{Feed}
use Rattle.netlist_model.specs.declared.Feed.TheVariants.{Net}
use Rattle.netlist_model.specs.Lists.{CellView, NetlistView}
use Rattle.gate_parts.specs.Parts.{added_nets}
use Rattle.plan_fitting.specs.declared.fitted.Fitted.{Fitted}
use Rattle.stitched_netlist.specs.declared.model.TapNames.{TapNames}
use Rattle.stitched_netlist.specs.ModelLogic.{tap_at, instruction_at, bypass_at}
use Rattle.stitched_netlist.specs.Stitched.{boundary_at, first_net, test_logic_nets, stitched_cells_by, stitched_cells, stitched}
use Rattle.stitched_netlist.specs.PlacesLaws.{port_of}
use Rattle.open_stitch.specs.declared.Parts.{Parts}

-- own: the number of the buffer, and its net: behind all others
abbrev pub through_number : NetlistView → Fitted → ℕ
through_number N f = length (stitched_cells N f)

abbrev pub through_net : NetlistView → Fitted → NetId
through_net N f = record { 0 = first_net N f + test_logic_nets (boundary_at N f) f }

-- own: the buffer, with this operand
abbrev pub through_cell : NetlistView → Fitted → Feed → CellView
through_cell N f operand = record {
  kind = Buf;
  name = Some (Added (through_number N f));
  feeds = operand ∷ [];
  output = Some (through_net N f);
}

-- the cells of the stitched netlist, but that TDO's take the buffer's net for the bit of the bypass register, and the
-- buffer, which has that bit
abbrev pub open_cells : NetlistView → Fitted → List CellView
open_cells N f = stitched_cells_by (through_net N f) N f ++ through_cell N f (Net (bypass_at (first_net N f) f)) ∷ []

-- of a netlist without gaps, what fits it, and the names of the test access port
abbrev pub stitched_open : NetlistView → TapNames → Fitted → NetlistView
stitched_open N names f = record {
  library = N.library;
  ports = (stitched N names f).ports;
  nets = (stitched N names f).nets ++ added_nets (through_net N f).0 1;
  cells = map Some (open_cells N f);
}

-- own: what further data registers are to be built on
abbrev pub parts_at : NetlistView → Fitted → Parts
parts_at N f = record {
  tap = tap_at (first_net N f) (port_of N);
  instr = instruction_at (first_net N f) (port_of N) f;
  tdi = (port_of N).tdi;
  bypass = bypass_at (first_net N f) f;
  through = record { 0 = through_number N f };
}
