-- Where each boundary cell of a plan stands, and how many nets stand between the core and it.
-- IEEE Std 1149.1-2001: boundary-scan register; that an output gets a driver for HIGHZ, and the numbers
-- of nets, are own.
use Rattle.std.specs.Prelude.{ℕ, ◌+◌, ◌==◌, Bool, true, false, List, take, length, slice_get, sum_by, Option, Some, option_and_then}
use Rattle.cell_library.specs.declared.codes.BoundaryKind.{BoundaryKind}
use Rattle.cell_library.specs.declared.codes.BoundaryKind.TheVariants.{Bc1}
use Rattle.cell_library.specs.declared.codes.Function.{Function}
use Rattle.cell_library.specs.declared.codes.Function.TheVariants as function
use Rattle.netlist_model.specs.declared.NetId.{NetId}
use Rattle.netlist_model.specs.declared.PinBit.{PinBit}
use Rattle.netlist_model.specs.declared.Feed.{Feed}
use Rattle.netlist_model.specs.declared.Feed.TheVariants.{Net}
use Rattle.netlist_model.specs.Lists.{PortView, NetlistView}
use Rattle.plan_fitting.specs.declared.fitted.FitRow.{FitRow}
use Rattle.stitched_netlist.specs.declared.model.Site.{Site}
use Rattle.stitched_netlist.specs.declared.model.Site.TheVariants as site

-- own: what boundary cells stand between: the netlist's ports, the rows of all cells, and the first net between
-- the core and them
pub record Boundary : Type 0 where
  pub ports : List PortView
  pub rows : List FitRow
  pub first : ℕ

-- own: these nets stand behind those of the core and of the test access port
abbrev pub boundary_of : NetlistView → List FitRow → Boundary
boundary_of N rows = record { ports = N.ports; rows = rows; first = length N.nets + 5 }

abbrev pub pin_net : List PortView → PinBit → Option NetId
pin_net ports pin = option_and_then (λ (port : PortView). slice_get port.nets pin.bit) (slice_get ports pin.port.0)

-- the net of a row's bit; a control cell has none
abbrev pub row_net : List PortView → FitRow → Option NetId
row_net ports row = option_and_then (pin_net ports) row.pin

-- own: what the core gives at a bit is its own net, as at an output that is always driven
abbrev pub is_own_net : Option NetId → Option Feed → Bool
is_own_net (Some net) (Some (Net other)) = net.0 == other.0
is_own_net _ _ = false

abbrev pub input_site : BoundaryKind → Site
input_site Bc1 = site.Input
input_site _ = site.Observed

-- with HIGHZ an output that is always driven gets a driver
abbrev pub output_site : Bool → Site
output_site true = site.AddedDriver
output_site false = site.Driver

abbrev pub site_by : Function → BoundaryKind → Bool → Site
site_by function.Input cell own = input_site cell
site_by function.Clock cell own = input_site cell
site_by function.Output2 cell own = site.Output
site_by function.Output3 cell own = output_site own
site_by function.Bidir cell own = site.Inout
site_by function.Control cell own = site.Control

-- where the cell of a row stands
abbrev pub site_of : List PortView → FitRow → Site
site_of ports row = site_by row.function row.cell (is_own_net (row_net ports row) row.core)

-- own: an added driver takes its data from a net of its own
abbrev pub side_count : Site → ℕ
side_count site.Observed = 0
side_count site.AddedDriver = 2
side_count _ = 1

abbrev pub row_sides : List PortView → FitRow → ℕ
row_sides ports row = side_count (site_of ports row)

-- own: how many nets stand between the core and these cells
abbrev pub sides_of : List PortView → List FitRow → ℕ
sides_of ports rows = sum_by (row_sides ports) rows

-- own: the first that is of the row with this number
abbrev pub side_at : Boundary → ℕ → ℕ
side_at B number = B.first + sides_of B.ports (take number B.rows)
