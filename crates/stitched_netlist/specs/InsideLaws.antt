-- The stitched netlist has the device's test logic around the core.
-- Own.
use Rattle.std.specs.Prelude.{List}
use Rattle.netlist_model.specs.declared.NetId.{NetId}
use Rattle.netlist_model.specs.Lists.{NetlistView}
use Rattle.netlist_model.specs.Formed.{IsLaidOut, IsWellFormed}
use Rattle.netlist_model.specs.Contained.{IsDense}
use Rattle.netlist_model.specs.Behind.{NestedBehind}
use Rattle.plan_fitting.specs.netlist_link.Linked.{LinkedView}
use Rattle.wrapped_chip.specs.Beside.{HasPins}
use Rattle.surrounded_core.specs.Surrounds.{SurroundsBy, Surrounds}
use Rattle.plan_texts.specs.declared.plan.Plan.{Plan}
use Rattle.plan_fitting.specs.Pins.{PinSeen}
use Rattle.plan_fitting.specs.Devices.{fitted_of, device_of}
use Rattle.plan_fitting.specs.FittingPlan.{IsFitting}
use Rattle.stitched_netlist.specs.declared.model.TapNames.{TapNames}
use Rattle.stitched_netlist.specs.Stitched.{boundary_at, stitched}
use Rattle.stitched_netlist.specs.Places.{HasBuiltIn}
use Rattle.stitched_netlist.specs.Inner.{inner_net}
use Rattle.stitched_netlist.specs.InsidePlaces.{places_in, places_of}

-- own: the core stands inside, with its drivers behind boundary cells
abbrev pub StitchedNests : Type 0
StitchedNests = (L : LinkedView) (p : Plan) (seen : List PinSeen) (names : TapNames) → IsFitting L p seen → IsLaidOut L.arena.lists → IsDense L.arena.lists
    → NestedBehind L.arena.lists (stitched L.arena.lists names (fitted_of L p seen))
    (inner_net L.arena.lists (stitched L.arena.lists names (fitted_of L p seen)) (boundary_at L.arena.lists (fitted_of L p seen))) (λ i. i)

-- own: and the test logic stands around it
abbrev pub StitchedSurrounds : Type 0
StitchedSurrounds = (L : LinkedView) (p : Plan) (seen : List PinSeen) (names : TapNames) → IsFitting L p seen → IsLaidOut L.arena.lists → IsDense L.arena.lists
    → IsWellFormed (stitched L.arena.lists names (fitted_of L p seen)) → HasPins (stitched L.arena.lists names (fitted_of L p seen)) L.arena.lists
    → Surrounds (stitched L.arena.lists names (fitted_of L p seen)) L.arena.lists (device_of L p seen) (places_of L.arena.lists names (fitted_of L p seen))

-- own: so it is in every netlist into which the test logic is built, whatever its TDO takes for the bit of
-- the bypass register
abbrev pub BuiltInNests : Type 0
BuiltInNests = (L : LinkedView) (p : Plan) (seen : List PinSeen) (names : TapNames) (M : NetlistView) (shown : NetId) → IsFitting L p seen → IsLaidOut L.arena.lists
    → HasBuiltIn M L.arena.lists names (fitted_of L p seen) shown
    → NestedBehind L.arena.lists M (inner_net L.arena.lists M (boundary_at L.arena.lists (fitted_of L p seen))) (λ i. i)

abbrev pub BuiltInSurrounds : Type 0
BuiltInSurrounds = (L : LinkedView) (p : Plan) (seen : List PinSeen) (names : TapNames) (M : NetlistView) (shown : NetId) → IsFitting L p seen → IsLaidOut L.arena.lists
    → HasBuiltIn M L.arena.lists names (fitted_of L p seen) shown → IsWellFormed M → HasPins M L.arena.lists
    → SurroundsBy M L.arena.lists (device_of L p seen) (places_in M L.arena.lists (fitted_of L p seen)) shown
