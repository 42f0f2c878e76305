-- The core behind its boundary cells: the nets that it has in the place of its pins' nets, and its drivers' operands.
-- IEEE Std 1149.1-2001: boundary-scan register (a cell stands between a system pin and the system logic). Own: inside
-- the core the readers of an output's net read what the core gives, and not the pin.
use Rattle.std.specs.Prelude.{ℕ, ◌+◌, ◌&&◌, Bool, true, false, List, [], ◌∷◌, map, Option, Some, None, option_and_then, unwrap_or, if◌then◌else◌}
use Rattle.std.specs.Option.{option_map, option_map_or}
use Rattle.netlist_model.specs.declared.NetId.{NetId}
use Rattle.netlist_model.specs.declared.Feed.{Feed}
use Rattle.netlist_model.specs.declared.Feed.TheVariants.{Net, Const}
use Rattle.netlist_model.specs.Lists.{PortView, CellView}
use Rattle.netlist_model.specs.Settled.{is_output}
use Rattle.netlist_model.specs.Nested.{renamed_net, renamed_feed}
use Rattle.plan_fitting.specs.declared.fitted.FitRow.{FitRow}
use Rattle.stitched_netlist.specs.declared.model.Site.{Site}
use Rattle.stitched_netlist.specs.declared.model.Site.TheVariants as site
use Rattle.stitched_netlist.specs.Sites.{Boundary, row_net, site_of, row_sides, side_at}

-- The nets.

-- the core's own net moves to the core's side of the cell
abbrev pub is_moved : Site → Bool
is_moved site.Input = true
is_moved site.Output = true
is_moved site.AddedDriver = true
is_moved _ = false

-- the row moves this net
abbrev pub moves : List PortView → ℕ → FitRow → Bool
moves ports net row = is_moved (site_of ports row) && is_output (row_net ports row) net

-- own: what these rows make of a net, where the nets between begin at `side`
abbrev pub side_from : List PortView → ℕ → ℕ → List FitRow → ℕ
side_from ports net side [] = net
side_from ports net side (row ∷ rows) = if moves ports net row then side else side_from ports net (side + row_sides ports row) rows

-- the net that the core has in the place of this one
abbrev pub core_side : Boundary → ℕ → ℕ
core_side B net = side_from B.ports net B.first B.rows

-- The drivers.

-- the core has a driver of its own there, which takes its operands from boundary cells
abbrev pub is_driven : Site → Bool
is_driven site.Driver = true
is_driven site.Inout = true
is_driven _ = false

-- the row is of a driver that drives this net
abbrev pub drives : List PortView → ℕ → FitRow → Bool
drives ports net row = is_driven (site_of ports row) && is_output (row_net ports row) net

-- the net of the level that the row's control cell gives
abbrev pub level_net : Boundary → FitRow → NetId
level_net B row = record { 0 = option_map_or (side_at B) row.control B.first }

-- the operands of the driver of a row with this net between: its data, and its control
abbrev pub driver_feeds : Boundary → ℕ → FitRow → List Feed
driver_feeds B side row = Net (record { 0 = side }) ∷ Net (level_net B row) ∷ []

-- own: the operands of what drives this net, if it is the driver of one of these rows, whose nets
-- between begin at `side`
abbrev pub feeds_from : Boundary → ℕ → ℕ → List FitRow → Option (List Feed)
feeds_from B net side [] = None
feeds_from B net side (row ∷ rows) =
    if drives B.ports net row then Some (driver_feeds B side row) else feeds_from B net (side + row_sides B.ports row) rows

abbrev pub feeds_behind : Boundary → NetId → Option (List Feed)
feeds_behind B net = feeds_from B net.0 B.first B.rows

-- The core.

-- a cell of the core: its nets are the core's side of theirs, and a driver's operands are those of boundary cells
abbrev pub core_cell : Boundary → CellView → CellView
core_cell B cell = record {
  kind = cell.kind;
  name = cell.name;
  feeds = unwrap_or (option_and_then (feeds_behind B) cell.output) (map (renamed_feed (core_side B)) cell.feeds);
  output = option_map (renamed_net (core_side B)) cell.output;
}

-- what the core gives the cell of a row
abbrev pub core_feed : Boundary → FitRow → Feed
core_feed B row = renamed_feed (core_side B) (unwrap_or row.core (Const false))
