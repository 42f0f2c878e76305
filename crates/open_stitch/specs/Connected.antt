-- The stitched netlist, with one operand of one gate of TDO on another net.
-- Own.
use Rattle.std.specs.Prelude.{◌≡◌, ◌≢◌, ℕ, ◌+◌, ◌++◌, length, slice_get, slice_set, Some}
use Rattle.netlist_model.specs.declared.NetId.{NetId}
use Rattle.netlist_model.specs.declared.Feed.TheVariants.{Net}
use Rattle.netlist_model.specs.Lists.{CellView, NetlistView, cell_at}
use Rattle.plan_fitting.specs.declared.fitted.Fitted.{Fitted}
use Rattle.stitched_netlist.specs.declared.model.TapNames.{TapNames}
use Rattle.stitched_netlist.specs.Stitched.{tap_ports, stitched_cells}
use Rattle.stitched_netlist.specs.PlacesLaws.{port_of}
use Rattle.stitched_netlist.specs.Places.{ExtendsStitched}

-- own: the gate that chooses between the boundary register's bit and the bypass register's, with this net for the
-- latter
abbrev pub shows : NetId → CellView → CellView
shows shown cell = record cell { feeds = slice_set cell.feeds 1 (Net shown) }

-- own: M has the stitched netlist's ports and its cells under their numbers, but that the third from the last, a gate
-- of TDO, reads this net
pub record Connects (M N : NetlistView) (names : TapNames) (f : Fitted) (shown : NetId) (gate : ℕ) : Type 0 where
  pub library : M.library ≡ N.library
  pub ports : M.ports ≡ N.ports ++ tap_ports names (port_of N)
  pub number : gate + 3 ≡ length (stitched_cells N f)
  pub others : (k : ℕ) (cell : CellView) → k ≢ gate → slice_get (stitched_cells N f) k ≡ Some cell → cell_at M k ≡ Some cell
  pub connected : (cell : CellView) → slice_get (stitched_cells N f) gate ≡ Some cell → cell_at M gate ≡ Some (shows shown cell)

abbrev pub ConnectedExtends : Type 0
ConnectedExtends = (M N : NetlistView) (names : TapNames) (f : Fitted) (shown : NetId) (gate : ℕ) → Connects M N names f shown gate → ExtendsStitched M N names f shown
