-- The directions of nets in the netlist with the test logic.
-- IEEE Std 1149.1-2001: test access port; the numbers of nets are own.
use Rattle.std.specs.Prelude.{◌≡◌, ℕ, ◌+◌, ◌<◌, ◌≤◌, length, Some, None}
use Rattle.netlist_model.specs.declared.Dir.TheVariants.{Input, Output}
use Rattle.netlist_model.specs.Lists.{NetlistView, direction}
use Rattle.netlist_model.specs.Formed.{IsLaidOut}
use Rattle.plan_fitting.specs.declared.fitted.Fitted.{Fitted}
use Rattle.stitched_netlist.specs.declared.model.TapNames.{TapNames}
use Rattle.stitched_netlist.specs.Stitched.{stitched}
use Rattle.stitched_netlist.specs.PlacesLaws.{port_of}

-- own: a net of the core has its direction, those of the test access port have theirs, and no other net has any
pub record KeepsDirections (N M : NetlistView) : Type 0 where
  pub core : (net : ℕ) → net < length N.nets → direction M.ports net ≡ direction N.ports net
  pub tck : direction M.ports (port_of N).tck.0 ≡ Some Input
  pub tms : direction M.ports (port_of N).tms.0 ≡ Some Input
  pub tdi : direction M.ports (port_of N).tdi.0 ≡ Some Input
  pub tdo : direction M.ports (port_of N).tdo.0 ≡ Some Output
  pub trst : direction M.ports (port_of N).trst.0 ≡ Some Input
  pub others : (net : ℕ) → length N.nets + 5 ≤ net → direction M.ports net ≡ None

abbrev pub StitchedDirections : Type 0
StitchedDirections = (N : NetlistView) (names : TapNames) (f : Fitted) → IsLaidOut N → KeepsDirections N (stitched N names f)
