-- What a caller knows who linked, fitted and prepared; and what stitching leaves.
-- IEEE Std 1149.1-2001: test logic architecture.
use Rattle.std.specs.Prelude.{◌≡◌, None}
use Rattle.netlist_model.specs.Contained.{IsDense}
use Rattle.netlist_arena.specs.Room.{too_many}
use Rattle.netlist_link.specs.Linked.{LinkedView, IsLinked, HasSameMarks}
use Rattle.plan_texts.specs.declared.plan.Plan.{Plan}
use Rattle.plan_fitting.specs.declared.fitted.Fitted.{Fitted}
use Rattle.plan_fitting.specs.Devices.{IsFitted}
use Rattle.plan_fitting.specs.FittingPlan.{IsFitting}
use Rattle.stitched_netlist.specs.declared.model.TapNames.{TapNames}
use Rattle.stitched_netlist.specs.Stitched.{stitched}
use Rattle.written_netlists.specs.Prepared.{room_of, ports_of, prepared, AreTapNames}
use Rattle.written_netlists.specs.Same.{IsSameNetlist}
use Rattle.scan_stitch.specs.Ready.{IsSmall}

-- the linked netlist is one without gaps that the plan was fitted to, and which was prepared, as its limits allow
pub record CanStitch (linked : LinkedView) (f : Fitted) : Type 0 where
  pub before : LinkedView
  pub plan : Plan
  pub fitted : IsFitted before plan f
  pub fitting : IsFitting before plan fitted.seen
  pub dense : IsDense before.arena.lists
  pub prepared_is : linked ≡ prepared f before
  pub small : IsSmall f
  pub few : too_many before.arena.lists (room_of f) (room_of f) (ports_of f) ≡ None

-- the netlist is that with the test logic built in, by the names that were entered, and it is linked; the names, the
-- module's name and the hidden ports stay
pub record IsStitched (before after : LinkedView) (f : Fitted) : Type 0 where
  pub tap : TapNames
  pub tap_is : AreTapNames before.names f tap
  pub netlist : IsSameNetlist after.arena.lists (stitched before.arena.lists tap f)
  pub linked : IsLinked after.arena.lists after.names after.order
  pub names : after.names ≡ before.names
  pub title : after.module_name ≡ before.module_name
  pub marks : HasSameMarks after before
