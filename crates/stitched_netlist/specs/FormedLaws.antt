-- The netlist with the test logic built in is well formed.
-- IEEE Std 1149.1-2001: test logic architecture; the conditions are those of netlist_model.
use Rattle.std.specs.Prelude.{◌≡◌, ◌≢◌, ℕ, ◌+◌, ◌<◌, ◌⊎◌, true, List, length, Some, None}
use Rattle.cell_library.specs.Gates.{is_three_state, Takes}
use Rattle.netlist_model.specs.declared.NetId.{NetId}
use Rattle.netlist_model.specs.declared.Dir.TheVariants.{Input, Output, Inout}
use Rattle.netlist_model.specs.Lists.{CellView, NetlistView, cell_at, bit_net, direction, Drives, Reads}
use Rattle.netlist_model.specs.Contained.{IsDense}
use Rattle.netlist_model.specs.Formed.{IsLaidOut, IsDriven, IsWellFormed}
use Rattle.plan_fitting.specs.netlist_link.Linked.{LinkedView}
use Rattle.plan_texts.specs.declared.plan.Plan.{Plan}
use Rattle.plan_fitting.specs.Devices.{fitted_of}
use Rattle.plan_fitting.specs.Pins.{PinSeen}
use Rattle.plan_fitting.specs.FittingPlan.{IsFitting}
use Rattle.stitched_netlist.specs.declared.model.TapNames.{TapNames}
use Rattle.stitched_netlist.specs.ModelLogic.{logic_size}
use Rattle.stitched_netlist.specs.Stitched.{first_net, stitched}

-- the conditions of a well-formed netlist on ports, drivers and readers: all but the order of gates and the cones
pub record HasDrivers (N : NetlistView) : Type 0 where
  pub counts : (i : ℕ) (cell : CellView) → cell_at N i ≡ Some cell → Takes N.library cell.kind (length cell.feeds)
  pub bits_apart : (p q j k : ℕ) (net : NetId) → bit_net N p j ≡ Some net → bit_net N q k ≡ Some net → (p ≡ q) × (j ≡ k)
  pub inputs_free : (i : ℕ) (cell : CellView) (net : ℕ) → Drives N i cell net → direction N.ports net ≢ Some Input
  pub one_driver : (i j : ℕ) (cell other : CellView) (net : ℕ) → Drives N i cell net → Drives N j other net → i ≡ j
  pub outputs_driven : (net : ℕ) → direction N.ports net ≡ Some Output → IsDriven N net
  pub inouts_driven : (net : ℕ) → direction N.ports net ≡ Some Inout → IsDriven N net
  pub read_driven : (i : ℕ) (cell : CellView) (place net : ℕ) → Reads N i cell place net → direction N.ports net ≡ None → IsDriven N net
  pub bufif_outside : (i : ℕ) (cell : CellView) (net : ℕ) → Drives N i cell net → is_three_state cell.kind ≡ true
      → (direction N.ports net ≡ Some Output) ⊎ (direction N.ports net ≡ Some Inout)
  pub inout_bufif : (i : ℕ) (cell : CellView) (net : ℕ) → Drives N i cell net → direction N.ports net ≡ Some Inout → is_three_state cell.kind ≡ true
  pub bufif_unread : (i j : ℕ) (cell other : CellView) (place net : ℕ) → Drives N i cell net → is_three_state cell.kind ≡ true
      → Reads N j other place net → direction N.ports net ≢ Some Output

-- so it is with the test logic
abbrev pub StitchedHasDrivers : Type 0
StitchedHasDrivers = (L : LinkedView) (p : Plan) (seen : List PinSeen) (names : TapNames) → IsFitting L p seen → IsLaidOut L.arena.lists → IsDense L.arena.lists
    → HasDrivers (stitched L.arena.lists names (fitted_of L p seen))

-- the netlist with the test logic is well formed
abbrev pub StitchedIsFormed : Type 0
StitchedIsFormed = (L : LinkedView) (p : Plan) (seen : List PinSeen) (names : TapNames) → IsFitting L p seen → IsLaidOut L.arena.lists → IsDense L.arena.lists
    → IsWellFormed (stitched L.arena.lists names (fitted_of L p seen))

-- the cells on the nets of the controller and of the registers beside the boundary register are none of
-- the netlist's own
abbrev pub StitchedLogicIsAdded : Type 0
StitchedLogicIsAdded = (L : LinkedView) (p : Plan) (seen : List PinSeen) (names : TapNames) → IsFitting L p seen → IsLaidOut L.arena.lists → IsDense L.arena.lists
    → (i j : ℕ) (cell : CellView) → j < logic_size (fitted_of L p seen)
    → Drives (stitched L.arena.lists names (fitted_of L p seen)) i cell (first_net L.arena.lists (fitted_of L p seen) + j) → cell_at L.arena.lists i ≡ None
