-- What holds of the netlist with the test logic built in, where a plan fits a netlist without gaps.
-- IEEE Std 1149.1-2001: test logic architecture, boundary-scan register; the statements are own.
use Rattle.std.specs.Prelude.{ℕ, List}
use Rattle.netlist_model.specs.Lists.{NetlistView}
use Rattle.netlist_model.specs.Cones.{IsControlNet}
use Rattle.netlist_model.specs.Formed.{IsLaidOut, IsNumbered, IsCombinational}
use Rattle.netlist_model.specs.Contained.{IsDense}
use Rattle.plan_fitting.specs.netlist_link.Linked.{LinkedView}
use Rattle.wrapped_chip.specs.Legal.{HasControls}
use Rattle.wrapped_chip.specs.Beside.{HasPins}
use Rattle.plan_texts.specs.declared.plan.Plan.{Plan}
use Rattle.plan_fitting.specs.declared.fitted.Fitted.{Fitted}
use Rattle.plan_fitting.specs.Pins.{PinSeen}
use Rattle.plan_fitting.specs.Devices.{fitted_of}
use Rattle.plan_fitting.specs.FittingPlan.{IsFitting}
use Rattle.stitched_netlist.specs.declared.model.TapNames.{TapNames}
use Rattle.stitched_netlist.specs.Stitched.{stitched}

-- own: the nets can be numbered
abbrev pub StitchedIsOrdered : Type 0
StitchedIsOrdered = (L : LinkedView) (p : Plan) (seen : List PinSeen) (names : TapNames) → IsFitting L p seen → IsLaidOut L.arena.lists → IsDense L.arena.lists
    → (rank : ℕ → ℕ) × IsNumbered (stitched L.arena.lists names (fitted_of L p seen)) rank

-- own: the cone of each clock, clear and preset operand holds input bits, constants and gates only
abbrev pub StitchedHasCones : Type 0
StitchedHasCones = (L : LinkedView) (p : Plan) (seen : List PinSeen) (names : TapNames) → IsFitting L p seen → IsLaidOut L.arena.lists → IsDense L.arena.lists
    → (net : ℕ) → IsControlNet (stitched L.arena.lists names (fitted_of L p seen)) net → IsCombinational (stitched L.arena.lists names (fitted_of L p seen)) net

-- own: the control ports are the core's, TCK and TRST
abbrev pub StitchedHasControls : Type 0
StitchedHasControls = (L : LinkedView) (p : Plan) (seen : List PinSeen) (names : TapNames) → IsFitting L p seen → IsLaidOut L.arena.lists → IsDense L.arena.lists
    → HasControls (stitched L.arena.lists names (fitted_of L p seen)) L.arena.lists

-- own: the pins of the core and the inputs of the test access port are there, each on one net
abbrev pub StitchedHasPins : Type 0
StitchedHasPins = (N : NetlistView) (names : TapNames) (f : Fitted) → IsLaidOut N → HasPins (stitched N names f) N
