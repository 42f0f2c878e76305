-- That a netlist and a plan give a module with test logic and a device.
-- IEEE Std 1149.1-2001: test logic architecture, the annex on BSDL; IEEE Std 1364-2001 for the modules; plans are own.
use Rattle.std.specs.Prelude.{◌≡◌, None}
use Rattle.verilog_tree.specs.declared.tree.Module.{Module}
use Rattle.verilog_tree.specs.IsTree.{IsTree}
use Rattle.cell_library.specs.Sound.{IsLibrary}
use Rattle.bsdl_device.specs.declared.values.Device.{Device}
use Rattle.netlist_arena.specs.Room.{too_many}
use Rattle.netlist_link.specs.Hidden.{AreStraight, EndsHidden}
use Rattle.netlist_link.specs.Linked.{LinkedView}
use Rattle.netlist_link.specs.Links.{IsLinkOf}
use Rattle.netlist_link.specs.ViewLaws.{IsSameView}
use Rattle.netlist_unlink.specs.Trees.{tree_of}
use Rattle.plan_texts.specs.declared.plan.Plan.{Plan}
use Rattle.plan_texts.specs.Canonical.{IsPlan}
use Rattle.plan_fitting.specs.Names.{HasOpenNames}
use Rattle.plan_fitting.specs.Fits.{Fits}
use Rattle.plan_fitting.specs.Devices.{fitted_of, device_of}
use Rattle.stitched_netlist.specs.declared.model.TapNames.{TapNames}
use Rattle.written_netlists.specs.Prepared.{room_of, ports_of, with_tap_names, AreTapNames}
use Rattle.written_netlists.specs.InsertedLaws.{with_test_logic}

-- own: the plan fits the netlist, in which there is room; the netlist with the test logic is written as this module,
-- and this is the plan's device
pub record GivesAt (L : LinkedView) (p : Plan) (inserted : Module) (d : Device) : Type 0 where
  pub fits : Fits L p
  pub room : too_many L.arena.lists (room_of (fitted_of L p fits.seen)) (room_of (fitted_of L p fits.seen)) (ports_of (fitted_of L p fits.seen)) ≡ None
  pub names : TapNames
  pub names_are : AreTapNames (with_tap_names (fitted_of L p fits.seen) L.names) (fitted_of L p fits.seen) names
  pub inserted_is : inserted ≡ tree_of (with_test_logic L names (fitted_of L p fits.seen)) p.prefix
  pub device_is : d ≡ device_of L p fits.seen

-- own: the netlist is what the module denotes with its library; its hidden ports are the last ones, each of their bits is
-- straight, and no name of theirs ends as a vector's bit does. Some text spells the plan, and they give the module with
-- test logic and the device
pub record Gives (tree : Module) (L : LinkedView) (p : Plan) (inserted : Module) (d : Device) : Type 0 where
  pub is : IsTree tree
  pub listed : IsLibrary L.arena.lists.library
  pub links : IsLinkOf tree L
  pub straight : AreStraight L
  pub ends : EndsHidden L
  pub open_names : HasOpenNames L
  pub plan : IsPlan p
  pub at : GivesAt L p inserted d

-- own: it doesn't depend on how the netlist is kept, but on which ports are hidden
abbrev pub GivesByTheView : Type 0
GivesByTheView = (one other : LinkedView) (p : Plan) (inserted : Module) (d : Device) → IsSameView one other → one.straight ≡ other.straight → GivesAt one p inserted d
    → GivesAt other p inserted d
