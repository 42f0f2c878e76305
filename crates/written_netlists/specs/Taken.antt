-- What the test logic takes of the room for cells and nets.
-- Own.
use Rattle.std.specs.Prelude.{◌+◌, ◌≤◌, length}
use Rattle.netlist_model.specs.Lists.{NetlistView, cell_count}
use Rattle.core_sides.specs.plan_fitting.declared.fitted.Fitted.{Fitted}
use Rattle.core_sides.specs.stitched_netlist.declared.model.TapNames.{TapNames}
use Rattle.core_sides.specs.stitched_netlist.Stitched.{stitched}
use Rattle.written_netlists.specs.Prepared.{room_of}

-- own: the cells and the nets that are added fit into the room that is taken for them
pub record FitsRoom (N : NetlistView) (names : TapNames) (f : Fitted) : Type 0 where
  pub cells : cell_count (stitched N names f) ≤ cell_count N + room_of f
  pub nets : length (stitched N names f).nets ≤ length N.nets + room_of f

abbrev pub StitchedFitsRoom : Type 0
StitchedFitsRoom = (N : NetlistView) (names : TapNames) (f : Fitted) → FitsRoom N names f
