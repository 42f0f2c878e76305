-- A netlist that a plan fits is ready for its test logic.
-- IEEE Std 1149.1-2001: boundary-scan register; the limits are own.
use Rattle.std.specs.Prelude.{◌+◌, ◌*◌, ◌^◌, ◌<◌, ◌≤◌, List, length}
use Rattle.netlist_model.specs.Lists.{NetView}
use Rattle.netlist_model.specs.Formed.{IsLaidOut}
use Rattle.netlist_arena.specs.Arena.{bit_count}
use Rattle.netlist_link.specs.Linked.{LinkedView, own_ports}
use Rattle.plan_texts.specs.declared.plan.Plan.{Plan}
use Rattle.core_sides.specs.plan_fitting.Pins.{PinSeen}
use Rattle.core_sides.specs.plan_fitting.Rows.{rows}
use Rattle.core_sides.specs.plan_fitting.FittingPlan.{IsFitting}
use Rattle.core_sides.specs.stitched_netlist.Sites.{sides_of}
use Rattle.core_sides.specs.stitched_netlist.Stitched.{with_nets}
use Rattle.core_sides.specs.Pins.{AreFew}
use Rattle.core_sides.specs.Ready.{CanStandBehind}

-- a data cell for each bit that isn't hidden at most, and a control cell for each of these
abbrev pub FittedAreFew : Type 0
FittedAreFew = (L : LinkedView) (p : Plan) (seen : List PinSeen) → IsFitting L p seen → bit_count (own_ports L) ≤ 4096 → AreFew (rows p seen)

-- with the five nets of the test access port and those between the core and its boundary cells, its core can stand
-- behind these cells, if there are few and the nets can be counted
abbrev pub FittedCanStandBehind : Type 0
FittedCanStandBehind = (L : LinkedView) (p : Plan) (seen : List PinSeen) (more : List NetView) → IsFitting L p seen → IsLaidOut L.arena.lists
    → AreFew (rows p seen) → 5 + sides_of L.arena.lists.ports (rows p seen) ≤ length more
    → length L.arena.lists.nets + 5 + 2 * length (rows p seen) < 2 ^ 32
    → CanStandBehind (with_nets more L.arena.lists) (rows p seen) (length L.arena.lists.nets + 5)
