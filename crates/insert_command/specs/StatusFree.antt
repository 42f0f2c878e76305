-- Texts of a netlist, of a plan and of registers in which no fault stands; what is told of them all the same is want of
-- memory. Own.
use Rattle.std.specs.Prelude.{◌≡◌, ℕ, List, slice_get, Some, None}
use Rattle.verilog_tree.specs.declared.tree.Module.{Module}
use Rattle.verilog_tree.specs.Texts.{SpellsText}
use Rattle.cell_library.specs.declared.listed.ListedCell.{ListedCell}
use Rattle.link_model.specs.Late.{IsLinkable}
use Rattle.netlist_model.specs.declared.PinBit.{PinBit}
use Rattle.netlist_link.specs.Linked.{LinkedView, HidesNone}
use Rattle.netlist_link.specs.Links.{IsLinkOf}
use Rattle.plan_texts.specs.declared.plan.Plan.{Plan}
use Rattle.plan_texts.specs.declared.plan.PinLine.{PinLine}
use Rattle.plan_texts.specs.Grammar.{SpellsPlan}
use Rattle.plan_fitting.specs.declared.fitted.Fitted.{Fitted}
use Rattle.plan_fitting.specs.Pins.{PinSeen, NamesBit, AreSeen}
use Rattle.plan_fitting.specs.Fits.{fault_with}
use Rattle.plan_fitting.specs.Devices.{IsFitted}
use Rattle.status_fitting.specs.declared.register_texts.plan.StatusPlan.{StatusPlan}
use Rattle.status_fitting.specs.Grammar.{SpellsStatus}
use Rattle.status_fitting.specs.declared.fitted.FittedStatus.{FittedStatus}
use Rattle.status_fitting.specs.Faults as registers
use Rattle.status_fitting.specs.Fitted.{IsFitted as AreFitted}
use Rattle.status_insertions.specs.status_register.Stitch.{HasRoomFor}
use Rattle.status_insertions.specs.status_inputs.declared.fault.StatusInsertFault.{StatusInsertFault}
use Rattle.status_insertions.specs.status_inputs.Faults.{StandsInStatusTexts}
use Rattle.command_faults.specs.declared.status.Status.TheVariants as status
use Rattle.command_faults.specs.Statuses.{status_of}
use Rattle.command_edges.specs.Lengths.{IsShort}
use Rattle.insert_command.specs.StatusFaults.{fault_of}

-- no fault of fitting stands in the plan, nor in the registers, and with the test logic and the registers there isn't
-- too much
pub record HasNoFault (linked : LinkedView) (p : Plan) (asked : StatusPlan) : Type 0 where
  pub named : (place : ℕ) (line : PinLine) → slice_get p.pins place ≡ Some line → (pin : PinBit) × NamesBit linked line.port pin
  pub faultless : (seen : List PinSeen) → AreSeen linked p.pins seen → fault_with linked p seen ≡ None
  pub registers_faultless : registers.HasNoFault linked p asked
  pub room : (f : Fitted) (s : FittedStatus) → IsFitted linked p f → AreFitted linked asked s → HasRoomFor linked f s

-- no fault stands in the bytes of the netlist, with this library, of the plan and of the registers
pub record IsInsertable (library : List ListedCell) (net text lines : List ℕ) : Type 0 where
  pub short : IsShort net
  pub short_plan : IsShort text
  pub short_lines : IsShort lines
  pub tree : Module
  pub spells : SpellsText net tree
  pub linkable : IsLinkable library tree
  pub plan : Plan
  pub spells_plan : SpellsPlan text plan
  pub asked : StatusPlan
  pub spells_registers : SpellsStatus lines asked
  pub free : (linked : LinkedView) → linked.arena.lists.library ≡ library → IsLinkOf tree linked → HidesNone linked → HasNoFault linked plan asked

-- a fault of such texts is want of memory
abbrev pub FreeStatusTextsWantMemory : Type 0
FreeStatusTextsWantMemory = (library : List ListedCell) (net text lines : List ℕ) (f : StatusInsertFault) → IsInsertable library net text lines → StandsInStatusTexts library net text lines f
    → status_of (fault_of f) ≡ status.Memory
