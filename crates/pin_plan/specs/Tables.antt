-- own: the three-state gate that drives each net, in a table.
use Rattle.std.specs.Prelude.{◌≡◌, ℕ, ◌<◌, Bool, true, false, List, length, slice_index_or, slice_set, Option, Some, None}
use Rattle.cell_library.specs.declared.Kind.{Kind}
use Rattle.cell_library.specs.declared.Kind.TheVariants.{Bufif0, Bufif1}
use Rattle.netlist_model.specs.declared.NetId.{NetId}
use Rattle.netlist_model.specs.Lists.{CellView, NetlistView}
use Rattle.netlist_model.specs.Settled.{driver_of}
use Rattle.plan_fitting.specs.Rows.{Driver, three_state}

-- whether 1 enables the gate, where it is a three-state gate
abbrev pub polarity : Kind → Option Bool
polarity Bufif1 = Some true
polarity Bufif0 = Some false
polarity _ = None

-- what the table has for a net
abbrev pub driver_at : List (Option Driver) → ℕ → Option Driver
driver_at drivers net = slice_index_or drivers net None

-- the table has the three-state gate among these cells that drives each net
pub record AreDriversAmong (N : NetlistView) (cells : List (Option CellView)) (drivers : List (Option Driver)) : Type 0 where
  pub long : length drivers ≡ length N.nets
  pub each : (net : ℕ) → net < length N.nets → driver_at drivers net ≡ three_state (driver_of cells net)

abbrev pub AreDrivers : NetlistView → List (Option Driver) → Type 0
AreDrivers N drivers = AreDriversAmong N N.cells drivers

-- the table where a cell drives the net of its output, if it has one
abbrev pub with_output : Option NetId → Option CellView → List (Option Driver) → List (Option Driver)
with_output None place drivers = drivers
with_output (Some net) place drivers = slice_set drivers net.0 (three_state place)

-- the table with the cell in a place
abbrev pub with_driver : Option CellView → List (Option Driver) → List (Option Driver)
with_driver None drivers = drivers
with_driver (Some cell) drivers = with_output cell.output (Some cell) drivers
