-- What a caller knows who linked, fitted and prepared; and what building in registers leaves.
-- IEEE Std 1149.1-2001: test logic architecture, design-specific test data registers.
use Rattle.std.specs.Prelude.{◌≡◌, List, None}
use Rattle.netlist_model.specs.Contained.{IsDense}
use Rattle.netlist_arena.specs.Room.{too_many}
use Rattle.netlist_link.specs.Linked.{LinkedView, IsLinked, HasSameMarks}
use Rattle.plan_texts.specs.declared.plan.Plan.{Plan}
use Rattle.plan_fitting.specs.declared.fitted.Fitted.{Fitted}
use Rattle.plan_fitting.specs.Devices.{IsFitted}
use Rattle.plan_fitting.specs.FittingPlan.{IsFitting}
use Rattle.stitched_netlist.specs.declared.model.TapNames.{TapNames}
use Rattle.written_netlists.specs.Prepared.{ports_of, AreTapNames}
use Rattle.written_netlists.specs.Same.{IsSameNetlist}
use Rattle.status_room.specs.scan_stitch.Ready.{IsSmall}
use Rattle.status_fitting.specs.declared.register_texts.plan.StatusPlan.{StatusPlan}
use Rattle.status_fitting.specs.declared.fitted.FittedRegister.{FittedRegister}
use Rattle.status_fitting.specs.Faults.{IsSpelled, HasNoFault}
use Rattle.status_fitting.specs.Fitted.{IsFitted as AreFitted}
use Rattle.status_room.specs.Ready.{whole_room}
use Rattle.status_room.specs.Prepared.{prepared_status}
use Rattle.status_stitch.specs.Stitched.{stitched_status}

-- the linked netlist is one without gaps that the plan and the registers were fitted to, and which was prepared, as its
-- limits allow
pub record CanStitchStatus (linked : LinkedView) (f : Fitted) (rs : List FittedRegister) : Type 0 where
  pub before : LinkedView
  pub plan : Plan
  pub lines : StatusPlan
  pub fitted : IsFitted before plan f
  pub fitting : IsFitting before plan fitted.seen
  pub spelled : IsSpelled lines
  pub registers : AreFitted before lines (record { registers = rs })
  pub faultless : HasNoFault before plan lines
  pub dense : IsDense before.arena.lists
  pub prepared_is : linked ≡ prepared_status f rs before
  pub small : IsSmall f
  pub few : too_many before.arena.lists (whole_room f rs) (whole_room f rs) (ports_of f) ≡ None

-- the netlist is that with the test logic and the registers built in, by the names that were entered, and it is linked;
-- the names, the module's name and the hidden ports stay
pub record IsStitchedStatus (before after : LinkedView) (f : Fitted) (rs : List FittedRegister) : Type 0 where
  pub tap : TapNames
  pub tap_is : AreTapNames before.names f tap
  pub netlist : IsSameNetlist after.arena.lists (stitched_status before.arena.lists tap f rs)
  pub linked : IsLinked after.arena.lists after.names after.order
  pub names : after.names ≡ before.names
  pub title : after.module_name ≡ before.module_name
  pub marks : HasSameMarks after before
