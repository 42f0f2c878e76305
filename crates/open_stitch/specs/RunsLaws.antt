-- How every netlist behaves that extends the stitched one.
-- Own.
use Rattle.std.specs.Prelude.{◌≡◌, ℕ, false, List, Some, None}
use Rattle.signal_values.specs.declared.Sig.{Sig}
use Rattle.cell_library.specs.Gates.{is_three_state}
use Rattle.netlist_model.specs.declared.NetId.{NetId}
use Rattle.netlist_model.specs.Lists.{CellView, NetlistView, direction}
use Rattle.netlist_model.specs.Settled.{driver_of}
use Rattle.netlist_model.specs.Formed.{IsLaidOut, IsWellFormed}
use Rattle.netlist_model.specs.Contained.{IsDense}
use Rattle.netlist_model.specs.Runs.{Moment}
use Rattle.netlist_link.specs.Linked.{LinkedView}
use Rattle.wrapped_chip.specs.Beside.{HasPins}
use Rattle.wrapped_chip.specs.ChipRuns.{ChipEvent, ChipMoment, IsChipRun}
use Rattle.wrapped_chip.specs.Realises.{IsRunBeside}
use Rattle.surrounded_core.specs.Open.{FollowsChip}
use Rattle.status_gates.specs.Placed.{IsCoreWire}
use Rattle.plan_texts.specs.declared.plan.Plan.{Plan}
use Rattle.plan_fitting.specs.Pins.{PinSeen}
use Rattle.plan_fitting.specs.Devices.{fitted_of, device_of}
use Rattle.plan_fitting.specs.FittingPlan.{IsFitting}
use Rattle.stitched_netlist.specs.declared.model.TapNames.{TapNames}
use Rattle.stitched_netlist.specs.Places.{ExtendsStitched}
use Rattle.stitched_netlist.specs.InsidePlaces.{places_in}

-- in every run beside a run of the chip: every pin but TDO reads as the chip's, the nets that the controller and the
-- registers hand on carry the chip's test logic, the core has its values, and TDO moves by what `shown` has in the
-- place of the bypass bit
abbrev pub OpenNetlistsFollow : Type 0
OpenNetlistsFollow = (L : LinkedView) (p : Plan) (seen : List PinSeen) (names : TapNames) (M : NetlistView) (shown : NetId) → IsFitting L p seen → IsLaidOut L.arena.lists
    → IsDense L.arena.lists → ExtendsStitched M L.arena.lists names (fitted_of L p seen) shown → IsWellFormed M → HasPins M L.arena.lists
    → (given : ℕ → Sig) (events : List ChipEvent) (chip : ℕ → ChipMoment) (moment : ℕ → Moment) → IsChipRun (device_of L p seen) L.arena.lists given events chip
    → IsRunBeside M (device_of L p seen) L.arena.lists given events chip moment
    → FollowsChip M (device_of L p seen) L.arena.lists (places_in M L.arena.lists (fitted_of L p seen)) shown events chip moment

-- a bit of a wire that something drives, other than a three-state gate, is one whose value the netlist carries on the
-- same net
abbrev pub DrivenWiresStay : Type 0
DrivenWiresStay = (L : LinkedView) (p : Plan) (seen : List PinSeen) (names : TapNames) (M : NetlistView) (shown : NetId) → IsFitting L p seen
    → ExtendsStitched M L.arena.lists names (fitted_of L p seen) shown → (net : ℕ) (cell : CellView) → direction L.arena.lists.ports net ≡ None
    → driver_of L.arena.lists.cells net ≡ Some cell → is_three_state cell.kind ≡ false → IsCoreWire L.arena.lists (places_in M L.arena.lists (fitted_of L p seen)) net

-- own: the pins of a netlist are those of its ports alone
abbrev pub PinsByPorts : Type 0
PinsByPorts = (M O N : NetlistView) → M.ports ≡ O.ports → HasPins O N → HasPins M N
