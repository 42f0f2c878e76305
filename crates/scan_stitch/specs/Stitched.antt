-- What building the test logic into a netlist comes to, and what it needs.
-- IEEE Std 1149.1-2001: test logic architecture, boundary-scan register; the numbers are own.
use Rattle.std.specs.Prelude.{◌≡◌, ◌≢◌, ℕ, ◌+◌, ◌^◌, ◌<◌, ◌≤◌, List, ◌++◌, All, map, length, Some, None, MatchOption, IsSome, ⊤}
use Rattle.std.specs.Option.{option_map}
use Rattle.cell_library.specs.declared.codes.Function.TheVariants as function
use Rattle.netlist_model.specs.declared.Dir.TheVariants.{Input}
use Rattle.netlist_model.specs.Lists.{NetView, CellView, NetlistView, direction, Drives}
use Rattle.netlist_model.specs.Below.{IsFeedBelow}
use Rattle.netlist_model.specs.Contained.{IsDense}
use Rattle.netlist_arena.specs.Arena.{ArenaView}
use Rattle.gate_parts.specs.Parts.{added_nets}
use Rattle.plan_fitting.specs.declared.fitted.FitRow.{FitRow}
use Rattle.plan_fitting.specs.declared.fitted.Fitted.{Fitted}
use Rattle.stitched_netlist.specs.declared.model.TapNames.{TapNames}
use Rattle.stitched_netlist.specs.Sites.{boundary_of, sides_of}
use Rattle.stitched_netlist.specs.Sides.{core_cell}
use Rattle.stitched_netlist.specs.Stitched.{tap_net_views, with_nets}
use Rattle.written_netlists.specs.Prepared.{room_of}
use Rattle.written_netlists.specs.core_sides.Ready.{CanStandBehind}
use Rattle.scan_stitch.specs.Ready.{IsSmall}

-- own: the nets that are added before anything else: those of the test access port, and those between
abbrev pub nets_around : NetlistView → TapNames → List FitRow → List NetView
nets_around N names rows = tap_net_views names ++ added_nets (length N.nets + 5) (sides_of N.ports rows)

-- own: the netlist with the nets of the test access port, and those between the core and its boundary cells,
-- behind which it stands
abbrev pub surrounded : NetlistView → TapNames → List FitRow → NetlistView
surrounded N names rows = record {
  library = N.library;
  ports = N.ports;
  nets = N.nets ++ nets_around N names rows;
  cells = map (option_map (core_cell (boundary_of N rows))) N.cells;
}

-- What is needed.

-- own: of a row: one without a bit is a control cell; what the core gives is a net that is there; an inout
-- names a control cell
pub record IsRowFit (N : NetlistView) (row : FitRow) : Type 0 where
  pub placed : row.pin ≡ None → row.function ≡ function.Control
  pub core : MatchOption row.core ⊤ (IsFeedBelow (length N.nets))
  pub inout : row.function ≡ function.Bidir → IsSome row.control

-- own: what was fitted can be built into a netlist without gaps
pub record CanBeStitched (N : NetlistView) (names : TapNames) (f : Fitted) : Type 0 where
  pub dense : IsDense N
  pub small : IsSmall f
  pub fit : All (IsRowFit N) f.rows
  -- no cell drives an input
  pub inputs : (i : ℕ) (cell : CellView) (net : ℕ) → Drives N i cell net → direction N.ports net ≢ Some Input
  -- with these nets the core can stand behind its boundary cells
  pub stands : CanStandBehind (with_nets (nets_around N names f.rows) N) f.rows (length N.nets + 5)

-- own: the room that preparing makes
pub record HasStitchRoom (arena : ArenaView) (f : Fitted) : Type 0 where
  pub nets : room_of f ≤ arena.spare.nets
  pub cells : room_of f ≤ arena.spare.cells
  pub port_bits : 5 ≤ arena.spare.port_bits
  pub fits : length arena.lists.nets + room_of f < 2 ^ 32
