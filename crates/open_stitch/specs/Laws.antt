-- The netlist whose bypass bit goes to TDO through a buffer is open to further data registers.
-- Own.
use Rattle.std.specs.Prelude.{List}
use Rattle.netlist_model.specs.Formed.{IsLaidOut}
use Rattle.netlist_model.specs.Contained.{IsDense}
use Rattle.netlist_link.specs.Linked.{LinkedView}
use Rattle.plan_texts.specs.declared.plan.Plan.{Plan}
use Rattle.plan_fitting.specs.Pins.{PinSeen}
use Rattle.plan_fitting.specs.Devices.{fitted_of, device_of}
use Rattle.plan_fitting.specs.FittingPlan.{IsFitting}
use Rattle.stitched_netlist.specs.declared.model.TapNames.{TapNames}
use Rattle.open_stitch.specs.Open.{stitched_open, parts_at}
use Rattle.open_stitch.specs.Runs.{IsOpen}

-- of each plan that fits a netlist without gaps
abbrev pub FittingPlansAreOpen : Type 0
FittingPlansAreOpen = (L : LinkedView) (p : Plan) (seen : List PinSeen) (names : TapNames) → IsFitting L p seen → IsLaidOut L.arena.lists → IsDense L.arena.lists
    → IsOpen (stitched_open L.arena.lists names (fitted_of L p seen)) (device_of L p seen) L.arena.lists (parts_at L.arena.lists (fitted_of L p seen))
