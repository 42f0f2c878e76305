-- When each fault of an insertion stands: in the netlist's text, the module, the plan's text, how it fits,
-- and the room. Own.
use Rattle.std.specs.Prelude.{◌≡◌, ℕ, List, Some}
use Rattle.verilog_texts.specs.TextFaults.{IsTextFault}
use Rattle.cell_library.specs.declared.listed.ListedCell.{ListedCell}
use Rattle.netlist_model.specs.declared.What.{What}
use Rattle.netlist_arena.specs.declared.room.ReserveFault.TheVariants as reserve
use Rattle.netlist_arena.specs.Room.{too_many}
use Rattle.netlist_link.specs.Linked.{LinkedView}
use Rattle.netlist_link.specs.Links.{HasLinkFault}
use Rattle.plan_texts.specs.declared.plan.Plan.{Plan}
use Rattle.plan_texts.specs.Grammar.{SpellsPlan}
use Rattle.plan_texts.specs.Faults as texts
use Rattle.plan_fitting.specs.declared.fitted.Fitted.{Fitted}
use Rattle.plan_fitting.specs.Devices.{IsFitted}
use Rattle.plan_fitting.specs.Fits as fits
use Rattle.scan_stitch.specs.written_netlists.Prepared.{room_of, ports_of}
use Rattle.insertion_inputs.specs.declared.fault.InsertFault.{InsertFault}
use Rattle.insertion_inputs.specs.declared.fault.InsertFault.TheVariants as fault
use Rattle.insertion_inputs.specs.Inputs.{IsNetlistOf}

-- The netlist.

-- the fault stands in the bytes of a netlist, with this library
abbrev pub StandsInNetlist : List ListedCell → List ℕ → InsertFault → Type 0
StandsInNetlist library net (fault.Netlist f) = IsTextFault net f
StandsInNetlist library net (fault.Link f) = HasLinkFault library f net
StandsInNetlist library net fault.OutOfMemory = Unit {0}
StandsInNetlist library net f = ⊥

-- A plan at a netlist.

-- the plan fits, and with its test logic there are so many where so many are the limit
pub record HasTooMany (linked : LinkedView) (p : Plan) (what : What) (count limit : ℕ) : Type 0 where
  pub fitted : Fitted
  pub is : IsFitted linked p fitted
  pub passes : too_many linked.arena.lists (room_of fitted) (room_of fitted) (ports_of fitted) ≡ Some (reserve.TooMany what count limit)

abbrev pub StandsInFit : LinkedView → Plan → InsertFault → Type 0
StandsInFit linked p (fault.Fit f) = fits.IsFault linked p f
StandsInFit linked p (fault.TooMany what count limit) = HasTooMany linked p what count limit
StandsInFit linked p fault.OutOfMemory = Unit {0}
StandsInFit linked p f = ⊥

-- the bytes spell a plan, in which the fault stands at this netlist
pub record HasPlanAtFault (linked : LinkedView) (text : List ℕ) (f : InsertFault) : Type 0 where
  pub plan : Plan
  pub spells : SpellsPlan text plan
  pub stands : StandsInFit linked plan f

abbrev pub StandsInPlan : LinkedView → List ℕ → InsertFault → Type 0
StandsInPlan linked text (fault.Plan f) = texts.IsFault text f
StandsInPlan linked text (fault.Fit f) = HasPlanAtFault linked text (fault.Fit f)
StandsInPlan linked text (fault.TooMany what count limit) = HasPlanAtFault linked text (fault.TooMany what count limit)
StandsInPlan linked text fault.OutOfMemory = Unit {0}
StandsInPlan linked text f = ⊥

-- Both texts.

-- the netlist's bytes spell a netlist at which the plan's have this fault
pub record HasPlanFault (library : List ListedCell) (net text : List ℕ) (f : InsertFault) : Type 0 where
  pub linked : LinkedView
  pub netlist : IsNetlistOf library net linked
  pub stands : StandsInPlan linked text f

-- The fault stands in the bytes of a netlist, with this library, and of a plan; the netlist is looked at first.
abbrev pub StandsInTexts : List ListedCell → List ℕ → List ℕ → InsertFault → Type 0
StandsInTexts library net text (fault.Netlist f) = IsTextFault net f
StandsInTexts library net text (fault.Link f) = HasLinkFault library f net
StandsInTexts library net text (fault.Plan f) = HasPlanFault library net text (fault.Plan f)
StandsInTexts library net text (fault.Fit f) = HasPlanFault library net text (fault.Fit f)
StandsInTexts library net text (fault.TooMany what count limit) = HasPlanFault library net text (fault.TooMany what count limit)
StandsInTexts library net text fault.OutOfMemory = Unit {0}
