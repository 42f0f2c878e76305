-- What `insert` makes is recovered.
-- IEEE Std 1149.1-2001: boundary-scan register, the annex on BSDL; the statements are own.
use Rattle.std.specs.Prelude.{◌≡◌, ◌<◌, ◌^◌, List, length, Some}
use Rattle.verilog_tree.specs.declared.tree.Module.{Module}
use Rattle.bsdl_device.specs.declared.values.Device.{Device}
use Rattle.netlist_model.specs.Formed.{IsLaidOut}
use Rattle.link_model.specs.Denoted.{denoted}
use Rattle.netlist_link.specs.Linked.{LinkedView}
use Rattle.netlist_link.specs.Links.{IsLinkOf}
use Rattle.netlist_unlink.specs.Trees.{tree_of}
use Rattle.netlist_unlink.specs.Renumbered.{DenotesSame}
use Rattle.plan_texts.specs.declared.plan.Plan.{Plan}
use Rattle.plan_fitting.specs.Pins.{PinSeen}
use Rattle.plan_fitting.specs.Devices.{fitted_of}
use Rattle.plan_fitting.specs.FittingPlan.{IsFitting}
use Rattle.stitched_netlist.specs.declared.model.TapNames.{TapNames}
use Rattle.stitched_netlist.specs.Stitched.{stitched}
use Rattle.written_netlists.specs.Prepared.{with_tap_names, AreTapNames}
use Rattle.strip_model.specs.Recovered.{recovered}
use Rattle.strip_model.specs.NetlistsTold.{CanBeTold}
use Rattle.strip_model.specs.PlansTold.{told_plan}
use Rattle.strip_model.specs.Gives.{Gives}

-- own: what is fitted to a link view can be told
abbrev pub FittedCanBeTold : Type 0
FittedCanBeTold = (m : Module) (L : LinkedView) (p : Plan) (seen : List PinSeen) (names : TapNames) → IsLinkOf m L → IsFitting L p seen → IsLaidOut L.arena.lists
    → AreTapNames (with_tap_names (fitted_of L p seen) L.names) (fitted_of L p seen) names → length (stitched L.arena.lists names (fitted_of L p seen)).nets < 2 ^ 32
    → CanBeTold L (with_tap_names (fitted_of L p seen) L.names) names (fitted_of L p seen) p.prefix

-- own: the netlist and the plan that a module with test logic and a device come from are recovered: the netlist as it
-- is written, and the plan but for the spelling of words, the kind of control cells that aren't there, and version 2
-- without a user code
abbrev pub RecoveredIsTheNetlist : Type 0
RecoveredIsTheNetlist = (m : Module) (L : LinkedView) (p : Plan) (inserted : Module) (d : Device) → (g : Gives m L p inserted d)
    → recovered inserted d ≡ Some (tree_of L p.prefix, told_plan L p g.at.fits.seen)

-- own: the netlist is recovered with some plan, and with it gives the same again
pub record Recovers (m : Module) (L : LinkedView) (inserted : Module) (d : Device) : Type 0 where
  pub tree : Module
  pub plan : Plan
  pub found : recovered inserted d ≡ Some (tree, plan)
  pub same : DenotesSame L.arena.lists.library m tree
  pub gives : Gives m L plan inserted d

-- own: the law: what a netlist and some plan give, gives the netlist back, and a plan that gives the same with it
abbrev pub LawOfStripping : Type 0
LawOfStripping = (m : Module) (L : LinkedView) (p : Plan) (inserted : Module) (d : Device) → Gives m L p inserted d → Recovers m L inserted d

-- own: no two netlists with one library give the same module and device: they have the same ports, nets and cells,
-- under the same names
abbrev pub OneNetlistGives : Type 0
OneNetlistGives = (m n : Module) (L M : LinkedView) (p q : Plan) (inserted : Module) (d : Device) → L.arena.lists.library ≡ M.arena.lists.library → Gives m L p inserted d → Gives n M q inserted d
    → denoted L.arena.lists.library m ≡ denoted M.arena.lists.library n
