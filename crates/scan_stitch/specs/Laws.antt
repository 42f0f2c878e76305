-- What was fitted can be stitched.
-- Own.
use Rattle.std.specs.Prelude.{◌+◌, ◌^◌, ◌<◌, List, length}
use Rattle.netlist_model.specs.Contained.{IsDense}
use Rattle.netlist_model.specs.Formed.{IsLaidOut}
use Rattle.netlist_link.specs.Linked.{LinkedView}
use Rattle.plan_texts.specs.declared.plan.Plan.{Plan}
use Rattle.plan_fitting.specs.declared.fitted.Fitted.{Fitted}
use Rattle.plan_fitting.specs.Pins.{PinSeen}
use Rattle.plan_fitting.specs.Devices.{IsFitted, fitted_of}
use Rattle.plan_fitting.specs.FittingPlan.{IsFitting}
use Rattle.stitched_netlist.specs.declared.model.TapNames.{TapNames}
use Rattle.written_netlists.specs.Prepared.{room_of}
use Rattle.written_netlists.specs.core_sides.Pins.{ArePinsThere}
use Rattle.scan_stitch.specs.Ready.{AreBitsInRange, IsSmall}
use Rattle.scan_stitch.specs.Stitched.{CanBeStitched}

-- each row's bit is one of its port, and of the netlist's ports
abbrev pub FittedBitsAreThere : Type 0
FittedBitsAreThere = (L : LinkedView) (p : Plan) (f : Fitted) → IsLaidOut L.arena.lists → IsFitted L p f → AreBitsInRange f × ArePinsThere L.arena.lists.ports f.rows

-- and it can be built into the netlist, if this has no gaps and its nets can be counted
abbrev pub FittedCanBeStitched : Type 0
FittedCanBeStitched = (L : LinkedView) (p : Plan) (seen : List PinSeen) (names : TapNames) → IsFitting L p seen → IsLaidOut L.arena.lists → IsDense L.arena.lists
    → IsSmall (fitted_of L p seen) → length L.arena.lists.nets + room_of (fitted_of L p seen) < 2 ^ 32 → CanBeStitched L.arena.lists names (fitted_of L p seen)
