-- The netlist with the test logic built in.
-- IEEE Std 1149.1-2001: test logic architecture, test access port; the order is own.
use Rattle.std.specs.Prelude.{ℕ, ◌+◌, List, [], ◌∷◌, ◌++◌, map, filter_map, length, Option, Some, None}
use Rattle.netlist_model.specs.declared.Dir.{Dir}
use Rattle.netlist_model.specs.declared.Dir.TheVariants.{Input, Output}
use Rattle.netlist_model.specs.declared.Name.{Name}
use Rattle.netlist_model.specs.declared.NetId.{NetId}
use Rattle.netlist_model.specs.Lists.{PortView, NetView, CellView, NetlistView, cell_count}
use Rattle.gate_parts.specs.Parts.{added_nets}
use Rattle.surrounded_core.specs.register_gates.Tdo.{tdo_cells}
use Rattle.plan_fitting.specs.declared.fitted.Fitted.{Fitted}
use Rattle.stitched_netlist.specs.declared.model.TapNames.{TapNames}
use Rattle.stitched_netlist.specs.declared.model.TapPort.{TapPort}
use Rattle.stitched_netlist.specs.Sites.{Boundary, boundary_of, sides_of}
use Rattle.stitched_netlist.specs.Sides.{core_cell}
use Rattle.stitched_netlist.specs.ModelRows.{nets_of_rows, behind, last_bit, rows_cells}
use Rattle.stitched_netlist.specs.ModelLogic.{logic_size, tap_at, instruction_at, bypass_at, ident_at, logic_cells}

-- The test access port.

-- own: its nets, where there are so many before
abbrev pub tap_port : ℕ → TapPort
tap_port count = record {
  tck = record { 0 = count };
  tms = record { 0 = count + 1 };
  tdi = record { 0 = count + 2 };
  tdo = record { 0 = count + 3 };
  trst = record { 0 = count + 4 };
}

-- the netlist with these nets behind its own
abbrev pub with_nets : List NetView → NetlistView → NetlistView
with_nets nets N = record N { nets = N.nets ++ nets }

abbrev pub scalar : Name → Dir → NetId → PortView
scalar name dir net = record { name = name; dir = dir; range = None; nets = net ∷ [] }

abbrev pub tap_ports : TapNames → TapPort → List PortView
tap_ports names port =
    scalar names.tck Input port.tck ∷ scalar names.tms Input port.tms ∷ scalar names.tdi Input port.tdi ∷ scalar names.tdo Output port.tdo
    ∷ scalar names.trst Input port.trst ∷ []

abbrev pub named_net : Name → NetView
named_net name = record { name = name; index = None }

abbrev pub tap_net_views : TapNames → List NetView
tap_net_views names = named_net names.tck ∷ named_net names.tms ∷ named_net names.tdi ∷ named_net names.tdo ∷ named_net names.trst ∷ []

-- The test logic behind a core of so many cells.

-- own: the boundary register, on nets from `first` on
abbrev pub rows_part : Boundary → ℕ → TapPort → Fitted → ℕ → List CellView
rows_part B first port f number = rows_cells B (instruction_at first port f).scan (first + logic_size f) number port.tdi B.first B.rows

-- its bit nearest TDO
abbrev pub boundary_last : Boundary → ℕ → TapPort → Fitted → NetId
boundary_last B first port f = last_bit B.ports (first + logic_size f) port.tdi B.rows

-- own: TDO, with this net for the bit of the bypass register
abbrev pub tdo_part_by : NetId → Boundary → ℕ → TapPort → Fitted → ℕ → List CellView
tdo_part_by shown B first port f number =
    tdo_cells (first + logic_size f + nets_of_rows B.ports B.rows) number (tap_at first port) (instruction_at first port f) shown (ident_at first port f)
    (boundary_last B first port f) port.tdo

abbrev pub tdo_part : Boundary → ℕ → TapPort → Fitted → ℕ → List CellView
tdo_part B first port f number = tdo_part_by (bypass_at first f) B first port f number

-- all of it: the controller and the registers, the boundary register, TDO
abbrev pub test_logic_cells_by : NetId → Boundary → ℕ → ℕ → TapPort → Fitted → List CellView
test_logic_cells_by shown B first number port f =
    behind number (behind number (logic_cells first number port f) (rows_part B first port f)) (tdo_part_by shown B first port f)

abbrev pub test_logic_cells : Boundary → ℕ → ℕ → TapPort → Fitted → List CellView
test_logic_cells B first number port f = test_logic_cells_by (bypass_at first f) B first number port f

-- own: how many nets it adds: six are TDO's
abbrev pub test_logic_nets : Boundary → Fitted → ℕ
test_logic_nets B f = logic_size f + nets_of_rows B.ports B.rows + 6

-- The whole.

abbrev pub same_place : Option CellView → Option CellView
same_place place = place

-- own: the live cells, by their numbers where there are no gaps
abbrev pub live_cells : NetlistView → List CellView
live_cells N = filter_map same_place N.cells

-- the boundary of the netlist
abbrev pub boundary_at : NetlistView → Fitted → Boundary
boundary_at N f = boundary_of N f.rows

-- own: the first net of the test logic, behind those between the core and its boundary cells
abbrev pub first_net : NetlistView → Fitted → ℕ
first_net N f = (boundary_at N f).first + sides_of N.ports f.rows

-- the cells of the core, and those of the test logic behind them; TDO's take this net for the bit of
-- the bypass register
abbrev pub stitched_cells_by : NetId → NetlistView → Fitted → List CellView
stitched_cells_by shown N f =
    map (core_cell (boundary_at N f)) (live_cells N) ++ test_logic_cells_by shown (boundary_at N f) (first_net N f) (cell_count N) (tap_port (length N.nets)) f

abbrev pub stitched_cells : NetlistView → Fitted → List CellView
stitched_cells N f = stitched_cells_by (bypass_at (first_net N f) f) N f

-- of a netlist without gaps, what fits it, and the names of the test access port
abbrev pub stitched : NetlistView → TapNames → Fitted → NetlistView
stitched N names f = record {
  library = N.library;
  ports = N.ports ++ tap_ports names (tap_port (length N.nets));
  nets = N.nets ++ (tap_net_views names ++ added_nets (boundary_at N f).first (sides_of N.ports f.rows + test_logic_nets (boundary_at N f) f));
  cells = map Some (stitched_cells N f);
}
