-- What holds of registers that were fitted, and the room for them.
-- Own.
use Rattle.std.specs.Prelude.{◌≡◌, Option, None}
use Rattle.netlist_arena.specs.declared.room.ReserveFault.{ReserveFault}
use Rattle.netlist_arena.specs.Room.{too_many}
use Rattle.netlist_link.specs.Linked.{LinkedView}
use Rattle.plan_texts.specs.declared.plan.Plan.{Plan}
use Rattle.plan_fitting.specs.declared.fitted.Fitted.{Fitted}
use Rattle.written_netlists.specs.Prepared.{ports_of}
use Rattle.status_fitting.specs.declared.register_texts.plan.StatusPlan.{StatusPlan}
use Rattle.status_fitting.specs.declared.fitted.FittedStatus.{FittedStatus}
use Rattle.status_fitting.specs.Faults.{IsSpelled, HasNoFault}
use Rattle.status_fitting.specs.Fitted.{IsFitted as AreFitted}
use Rattle.status_stitch.specs.status_room.Ready.{whole_room}

-- these are the registers that some text spells, as they fit a plan and a netlist, with no fault
pub record AreRegisters (L : LinkedView) (p : Plan) (s : FittedStatus) : Type 0 where
  pub asked : StatusPlan
  pub spelled : IsSpelled asked
  pub faultless : HasNoFault L p asked
  pub fitted : AreFitted L asked s

-- what is told where present and asked, with the test logic and the registers, pass a limit
abbrev pub excess : LinkedView → Fitted → FittedStatus → Option ReserveFault
excess L f s = too_many L.arena.lists (whole_room f s.registers) (whole_room f s.registers) (ports_of f)

-- nothing passes one
abbrev pub HasRoomFor : LinkedView → Fitted → FittedStatus → Type 0
HasRoomFor L f s = excess L f s ≡ None
