-- When each fault of an insertion with registers of the design's own stands: those of the netlist and the plan as
-- without registers; then in the registers' text, how they fit, and the room. Own.
use Rattle.std.specs.Prelude.{◌≡◌, ℕ, List, Some}
use Rattle.cell_library.specs.declared.listed.ListedCell.{ListedCell}
use Rattle.netlist_arena.specs.declared.room.ReserveFault.{ReserveFault}
use Rattle.netlist_arena.specs.declared.room.ReserveFault.TheVariants as reserve
use Rattle.netlist_model.specs.declared.What.{What}
use Rattle.netlist_link.specs.Linked.{LinkedView}
use Rattle.plan_texts.specs.declared.plan.Plan.{Plan}
use Rattle.plan_texts.specs.Faults as plans
use Rattle.plan_texts.specs.Grammar.{SpellsPlan}
use Rattle.plan_fitting.specs.declared.fitted.Fitted.{Fitted}
use Rattle.plan_fitting.specs.Devices.{IsFitted}
use Rattle.plan_fitting.specs.Fits.{Fits}
use Rattle.insertion_inputs.specs.declared.fault.InsertFault.{InsertFault}
use Rattle.insertion_inputs.specs.declared.fault.InsertFault.TheVariants as insert
use Rattle.insertion_inputs.specs.Inputs.{IsNetlistOf}
use Rattle.insertion_inputs.specs.Faults.{StandsInTexts, HasPlanAtFault}
use Rattle.status_fitting.specs.declared.register_texts.fault.StatusFault.{StatusFault}
use Rattle.status_fitting.specs.declared.register_texts.fault.StatusFault.TheVariants as status
use Rattle.status_fitting.specs.declared.register_texts.plan.StatusPlan.{StatusPlan}
use Rattle.status_fitting.specs.RegisterTextsFaults as lines
use Rattle.status_fitting.specs.Grammar.{SpellsStatus}
use Rattle.status_fitting.specs.declared.fitted.FittedStatus.{FittedStatus}
use Rattle.status_fitting.specs.Faults as fits
use Rattle.status_register.specs.Stitch.{excess}
use Rattle.status_inputs.specs.declared.fault.StatusInsertFault.{StatusInsertFault}
use Rattle.status_inputs.specs.declared.fault.StatusInsertFault.TheVariants as fault
use Rattle.status_inputs.specs.Inputs.{SpellsRegisters}

-- Registers at a netlist and a plan.

-- the bytes spell registers, in which the fault stands at this plan and this netlist
pub record HaveFitFault (linked : LinkedView) (p : Plan) (text : List ℕ) (f : StatusFault) : Type 0 where
  pub asked : StatusPlan
  pub spells : SpellsStatus text asked
  pub stands : fits.HasFault linked p asked f

-- the fault stands in the bytes of registers; lines are looked at before what they name
abbrev pub StandsInRegisters : LinkedView → Plan → List ℕ → StatusFault → Type 0
StandsInRegisters linked p text (status.StatusLine line) = lines.HasFault text (status.StatusLine line)
StandsInRegisters linked p text (status.StatusName word) = HaveFitFault linked p text (status.StatusName word)
StandsInRegisters linked p text (status.StatusNet word) = HaveFitFault linked p text (status.StatusNet word)
StandsInRegisters linked p text (status.StatusOpcode word) = HaveFitFault linked p text (status.StatusOpcode word)
StandsInRegisters linked p text status.OutOfMemory = Unit {0}

-- own: with the test logic and the registers of what was fitted there are so many where so many are the limit
abbrev pub StandsInRoom : LinkedView → Fitted → FittedStatus → ReserveFault → Type 0
StandsInRoom linked f s (reserve.TooMany what count limit) = excess linked f s ≡ Some (reserve.TooMany what count limit)
StandsInRoom linked f s reserve.OutOfMemory = Unit {0}

-- A plan and registers at a netlist.

-- own: the bytes spell no plan, or one that doesn't fit the netlist
abbrev pub StandsInPlanText : LinkedView → List ℕ → InsertFault → Type 0
StandsInPlanText linked text (insert.Plan f) = plans.IsFault text f
StandsInPlanText linked text (insert.Fit f) = HasPlanAtFault linked text (insert.Fit f)
StandsInPlanText linked text insert.OutOfMemory = Unit {0}
StandsInPlanText linked text f = ⊥

-- the bytes of the plan spell one that fits, and in those of the registers the fault stands
pub record HasRegistersAtFault (linked : LinkedView) (text registers : List ℕ) (f : StatusFault) : Type 0 where
  pub plan : Plan
  pub spells : SpellsPlan text plan
  pub fits : Fits linked plan
  pub stands : StandsInRegisters linked plan registers f

-- both fit, and with them there are so many where so many are the limit
pub record HasTooMany (linked : LinkedView) (text registers : List ℕ) (what : What) (count limit : ℕ) : Type 0 where
  pub plan : Plan
  pub spells : SpellsPlan text plan
  pub fitted : Fitted
  pub is : IsFitted linked plan fitted
  pub status : FittedStatus
  pub registers_are : SpellsRegisters registers linked plan status
  pub passes : StandsInRoom linked fitted status (reserve.TooMany what count limit)

abbrev pub StandsBehindPlan : LinkedView → List ℕ → List ℕ → StatusInsertFault → Type 0
StandsBehindPlan linked text registers (fault.Insert (insert.TooMany what count limit)) = HasTooMany linked text registers what count limit
StandsBehindPlan linked text registers (fault.Insert f) = StandsInPlanText linked text f
StandsBehindPlan linked text registers (fault.Registers f) = HasRegistersAtFault linked text registers f

-- All texts.

-- the netlist's bytes spell a netlist at which the others have this fault
pub record HasFaultBehind (library : List ListedCell) (net text registers : List ℕ) (f : StatusInsertFault) : Type 0 where
  pub linked : LinkedView
  pub netlist : IsNetlistOf library net linked
  pub stands : StandsBehindPlan linked text registers f

-- The fault stands in the bytes of a netlist, with this library, of a plan and of registers: the netlist is looked at
-- first, then the plan, as without registers; then the registers; and last the room for all.
abbrev pub StandsInStatusTexts : List ListedCell → List ℕ → List ℕ → List ℕ → StatusInsertFault → Type 0
StandsInStatusTexts library net text registers (fault.Insert (insert.TooMany what count limit)) =
    HasFaultBehind library net text registers (fault.Insert (insert.TooMany what count limit))
StandsInStatusTexts library net text registers (fault.Insert f) = StandsInTexts library net text f
StandsInStatusTexts library net text registers (fault.Registers f) = HasFaultBehind library net text registers (fault.Registers f)
