-- What holds of the names of the netlist with the test logic built in.
-- IEEE Std 1149.1-2001: test access port; IEEE Std 1364-2001: hierarchical names; the statements are own.
use Rattle.std.specs.Prelude.{◌≡◌, ℕ, List, slice_get, Some}
use Rattle.netlist_model.specs.Formed.{IsLaidOut}
use Rattle.netlist_model.specs.Contained.{IsDense}
use Rattle.link_arena.specs.NameTableNames.{IsOnce}
use Rattle.netlist_link.specs.Linked.{LinkedView}
use Rattle.netlist_link.specs.WellNamed.{IsWellNamed}
use Rattle.core_sides.specs.netlist_unlink.Prefixes.{IsFreePrefix}
use Rattle.plan_texts.specs.declared.plan.Plan.{Plan}
use Rattle.core_sides.specs.plan_fitting.declared.fitted.Fitted.{Fitted}
use Rattle.core_sides.specs.plan_fitting.Pins.{PinSeen}
use Rattle.core_sides.specs.plan_fitting.Devices.{fitted_of}
use Rattle.core_sides.specs.plan_fitting.FittingPlan.{IsFitting}
use Rattle.core_sides.specs.stitched_netlist.declared.model.TapNames.{TapNames}
use Rattle.core_sides.specs.stitched_netlist.Stitched.{stitched}
use Rattle.written_netlists.specs.Same.{IsSameNetlist}
use Rattle.written_netlists.specs.Prepared.{with_tap_names, AreTapNames, HasEntered}

-- The table.

-- own: what holds of the table with the names of the test access port
pub record EntersTapNames (names : List (List ℕ)) (f : Fitted) : Type 0 where
  -- a name keeps its number
  pub kept : (number : ℕ) (bytes : List ℕ) → slice_get names number ≡ Some bytes → slice_get (with_tap_names f names) number ≡ Some bytes
  -- where none stood twice, none does
  pub once : IsOnce names → IsOnce (with_tap_names f names)
  -- they are all there
  pub entered : HasEntered (with_tap_names f names) f
  -- and where none stands twice, under one number each
  pub same : IsOnce names → (one other : TapNames) → AreTapNames (with_tap_names f names) f one → AreTapNames (with_tap_names f names) f other → one ≡ other

abbrev pub TapNamesAreEntered : Type 0
TapNamesAreEntered = (names : List (List ℕ)) (f : Fitted) → EntersTapNames names f

-- The netlist.

-- own: the netlist with the test logic built in, of what fits, is well named by that table
abbrev pub StitchedIsNamed : Type 0
StitchedIsNamed = (L : LinkedView) (p : Plan) (seen : List PinSeen) (names : TapNames) → IsFitting L p seen → IsLaidOut L.arena.lists → IsDense L.arena.lists
    → AreTapNames (with_tap_names (fitted_of L p seen) L.names) (fitted_of L p seen) names
    → IsWellNamed (with_tap_names (fitted_of L p seen) L.names) (stitched L.arena.lists names (fitted_of L p seen))

-- own: and none of its original names begins with the prefix, as writing it wants
abbrev pub StitchedHasFreePrefix : Type 0
StitchedHasFreePrefix = (L after : LinkedView) (p : Plan) (seen : List PinSeen) (names : TapNames) → IsFitting L p seen → IsLaidOut L.arena.lists → IsDense L.arena.lists
    → AreTapNames (with_tap_names (fitted_of L p seen) L.names) (fitted_of L p seen) names
    → after.names ≡ with_tap_names (fitted_of L p seen) L.names → IsSameNetlist after.arena.lists (stitched L.arena.lists names (fitted_of L p seen))
    → IsFreePrefix after p.prefix
